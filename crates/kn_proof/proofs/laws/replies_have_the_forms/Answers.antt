use Rattle.std.proofs.Common.{refl}
use Rattle.kn_proof.proofs.LineTexts.{header_texts, header_form, header_range, row_texts, row_form, row_range}
use Rattle.kn_proof.proofs.laws.replies_have_the_forms.Goals as goal

pub returns-clause-header : goal.returns-clause-header
returns-clause-header c = λ header is. (header_texts header, refl, header_form header is, header_range header is)

pub returns-clause-row : goal.returns-clause-row
returns-clause-row c = λ row is. (row_texts row, refl, row_form row is, row_range row is)
