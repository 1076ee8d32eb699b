use Rattle.std.proofs.Common.{◌≡◌, List, length, ap, subst, ◌∙◌, arith}
use Rattle.std.specs.Prelude.{IfOk}
use Rattle.kn_proof.specs.declared.named.Id.TheVariants.{Shared}
use Rattle.kn_meaning.specs.Equations.{Part, IsPolicyLevel, equations_over}
use Rattle.kn_meaning.specs.Proofs as proof
use Rattle.kn_history.specs.History.{NumberedText}
use Rattle.kn_daemon.specs.Daemon.{parts_of}
use Rattle.kn_rows.proofs.NamesAdded.{length-with_names}
use Rattle.kn_answer.specs.Removed.{live_parts}
use Rattle.kn_query.specs.Following.{live_credentials}
use Rattle.kn_query.proofs.Rows.{live-parts}
use Rattle.kn_query.proofs.shared_base.SharedBase.answer.Goals as goal

pub answer-requires-clause-base : goal.answer-requires-clause-base
answer-requires-clause-base c = c.requires.rows.of

pub answer-requires-clause-room : goal.answer-requires-clause-room
answer-requires-clause-room c =
    let entered = length-with_names c.args.self.now.base.names c.args.query.now.requesters in
    omega (arith, entered, c.requires.few_names, c.requesters-requesters.ensures.right.few)

pub returns : goal.returns
returns c =
    let rows : List NumberedText = c.args.self.now.rows in
    let flags = c.args.self.now.base.live in
    let left : live_parts (parts_of Shared rows) flags ≡ parts_of Shared (live_credentials rows flags) =
    live-parts Shared rows flags c.len-read.ensures.read c.requires.rows.flags in
    record {
      proof = λ version held.
          subst (λ (ps : List Part).
          IfOk c.answer.result (λ a. proof.IsProof (equations_over c.args.query.now ps) a.rows a.value))
          (left ∙ ap (parts_of Shared) held.live) c.answer.ensures.proof;
      least = λ version held.
          subst (λ (ps : List Part).
          IfOk c.answer.result (λ a. IsPolicyLevel (equations_over c.args.query.now ps) a.value))
          (left ∙ ap (parts_of Shared) held.live) c.answer.ensures.least;
      below = c.answer.ensures.below;
      credentials = λ version held. record {
        number = held.number;
        has_rows = record {
          of = c.answer.ensures.base;
          flags = ap length c.answer.ensures.live ∙ held.has_rows.flags;
        };
        live = ap (live_credentials rows) c.answer.ensures.live ∙ held.live;
        newest = held.newest;
        steady = held.steady;
      };
    }
