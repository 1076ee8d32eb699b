use Rattle.std.proofs.Common.{◌≢◌, ◌∷◌, [], List, ℕ, ap, take, slice_index, IfSome, IfNone, Option, Some, None}
use Rattle.std.proofs.lemmas.Bool.Decides.{Decides-eqb}
use Rattle.std.proofs.lemmas.Slice.Eq.{strip_prefix_is}
use Rattle.kn_follow.specs.Answers.{IsLine, IsLogAnswer, WaitsFor}
use Rattle.kn_follow.proofs.AnswerForms.{other-answer, waits-other, not-first}
use Rattle.kn_follow.proofs.answer.log_end.Goals as goal

pub reply_end-requires : goal.reply_end-requires
reply_end-requires c =
    ap (λ l. slice_index l 0)
    (rw c.in-Some.is at
    (strip_prefix_is Decides-eqb c.args.bytes.now (76 ∷ []) c.strip_prefix.result c.strip_prefix.ensures.cases))

other : (text : List ℕ) (found : Option ℕ) → slice_index text 0 ≢ 76 → IfSome found (λ n. IsLine (take n text))
    → IfSome found (λ n. IsLogAnswer (take n text))
other text None first line = tt
other text (Some n) first line = other-answer text n first line

waits : (text : List ℕ) (found : Option ℕ) → slice_index text 0 ≢ 76 → IfNone found (WaitsFor IsLine text)
    → IfNone found (WaitsFor IsLogAnswer text)
waits text None first line = waits-other text first line
waits text (Some n) first line = tt

pub returns-in-None-clause-answer : goal.returns-in-None-clause-answer
returns-in-None-clause-answer c =
    let text = c.args.bytes.now in
    other text c.line_end.result
    (not-first text (rw c.in-None.is at
    (strip_prefix_is Decides-eqb text (76 ∷ []) c.strip_prefix.result c.strip_prefix.ensures.cases)))
    c.line_end.ensures.line

pub returns-in-None-clause-none : goal.returns-in-None-clause-none
returns-in-None-clause-none c =
    let text = c.args.bytes.now in
    waits text c.line_end.result
    (not-first text (rw c.in-None.is at
    (strip_prefix_is Decides-eqb text (76 ∷ []) c.strip_prefix.result c.strip_prefix.ensures.cases)))
    c.line_end.ensures.none
