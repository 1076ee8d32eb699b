use Rattle.std.proofs.Common.{◌≡◌, ◌∙◌, ap, option_map, Some, rules}
use Rattle.std.specs.List.{before_first}
use Rattle.kn_wire.specs.Lines.{line_of_request, word_text}
use Rattle.kn_wire.specs.Requests.{Whole, behind_space, is_space, line_of_command, or_malformed}
use Rattle.kn_wire.specs.Wired.{request_or_fault}
use Rattle.kn_wire.proofs.line.read_line.Goals as goal

pub returns-in-Some-rest : goal.returns-in-Some-rest
returns-in-Some-rest c =
    let asked : Whole (request_or_fault c.ok_or.result)
    ≡ or_malformed (option_map line_of_request c.read_behind.result) = search rules in
    let word : word_text c.in-Some.word ≡ before_first is_space c.args.line.now = search rules in
    let rest : Some c.in-Some-rest.text.now ≡ behind_space c.args.line.now = search rules in
    asked ∙ c.read_behind.ensures
    ∙ ap (λ text. line_of_command text (Some c.in-Some-rest.text.now)) word
    ∙ ap (line_of_command (before_first is_space c.args.line.now)) rest
