use Rattle.std.proofs.Common.{◌≡◌, ℕ, ◌++◌, All, List, length, map, sym, ap, subst, ◌∙◌, arith}
use Rattle.kn_proof.specs.declared.named.Id.TheVariants.{Shared, Private as Own}
use Rattle.kn_meaning.specs.Equations.{Part, IsPolicyLevel, equations_over}
use Rattle.kn_meaning.specs.Proofs as proof
use Rattle.kn_system.specs.Rows.{SystemRow}
use Rattle.kn_history.specs.declared.update.Update.{Update}
use Rattle.kn_history.specs.History.{NumberedText}
use Rattle.kn_session.specs.Views.{numbered_text}
use Rattle.kn_daemon.specs.Daemon.{parts_of}
use Rattle.kn_principal.specs.Principals.{policy}
use Rattle.kn_rows.specs.BaseRows.{AreBaseRows}
use Rattle.kn_rows.specs.Numbering.{AreDistinct, IsNumber}
use Rattle.kn_rows.specs.Sizes.{IsReadablePart, total_size}
use Rattle.kn_answer.specs.Removed.{live_parts}
use Rattle.kn_query.specs.Following.{live_credentials}
use Rattle.kn_query.specs.SharedBases.{HasCredentials}
use Rattle.kn_query.specs.SharedParts.{private_parts, shared_parts}
use Rattle.kn_query.proofs.Rows.{live-parts}
use Rattle.kn_query.proofs.SharedParts.{parts-readable, parts-size}
use Rattle.kn_query.proofs.Texts.{own_read}
use Rattle.kn_query.proofs.shared_base.SharedBase.answer_with.Goals as goal

pub answer_with-requires : goal.answer_with-requires
answer_with-requires c =
    let privates = c.args.privates.now in
    let own : c.push_private.new.parts ≡ private_parts privates = c.in_ok-push_private.ensures
    ∙ ap (λ (ps : List Part). ps ++ private_parts privates) c.new-parts.ensures in
    let told = c.readings_are_computed.ensures.reading in
    let read = own_read privates c.requires.readings in
    let size = parts-size told c.readings_are_sound.ensures Own (map numbered_text privates) read in
    let total = ap total_size own in
    record {
      base = c.requires.rows.of;
      readable = subst (All IsReadablePart) (sym own)
          (parts-readable told c.readings_are_sound.ensures Own (map numbered_text privates) read);
      room = omega (
        arith,
        total,
        size,
        c.requires.privates.short,
        c.requires.few_names,
        c.requesters-requesters.ensures.right.few,
      );
      nodes_fit = omega (arith, total, size, c.requires.privates.short, c.requires.few_nodes);
    }

pub returns : goal.returns
returns c =
    let privates = c.args.privates.now in
    let rows : List NumberedText = c.args.self.rows in
    let flags = c.args.self.base.live in
    let own : c.push_private.new.parts ≡ private_parts privates = c.in_ok-push_private.ensures
    ∙ ap (λ (ps : List Part). ps ++ private_parts privates) c.new-parts.ensures in
    let left : live_parts (parts_of Shared rows) flags ≡ parts_of Shared (live_credentials rows flags) =
    live-parts Shared rows flags c.len-read.ensures.read c.requires.rows.flags in
    let all : (version : List Update) → HasCredentials version c.args.self
    → live_parts (parts_of Shared rows) flags ++ c.push_private.new.parts ≡ shared_parts version
    ++ private_parts privates =
    λ version held. ap (λ (ps : List Part). ps ++ c.push_private.new.parts) (left ∙ ap (parts_of Shared) held.live)
    ∙ ap (λ (ps : List Part). shared_parts version ++ ps) own in
    let names = c.in_ok-answer.ensures.names in
    let system = c.in_ok-answer.ensures.rows in
    record {
      proof = λ version held.
          subst (λ (ps : List Part). proof.IsProof (equations_over c.args.query.now ps) c.in_ok-answer.answer.rows
          c.in_ok-answer.answer.value)
          (all version held) c.in_ok-answer.ensures.proof;
      least = λ version held.
          subst (λ (ps : List Part). IsPolicyLevel (equations_over c.args.query.now ps) c.in_ok-answer.answer.value)
          (all version held) c.in_ok-answer.ensures.least;
      below = c.in_ok-answer.ensures.below;
      credentials = λ version held. record {
        number = held.number;
        has_rows = record {
          of = record {
            first = subst (λ ns. IsNumber ns policy 0) (sym names) held.has_rows.of.first;
            distinct = subst (λ (ns : List (List ℕ)). AreDistinct ns) (sym names) held.has_rows.of.distinct;
            rows = subst (λ (rs : List SystemRow). AreBaseRows c.in_ok-answer.base.names (parts_of Shared rows) rs)
                (sym system)
                (subst (λ (ns : List (List ℕ)). AreBaseRows ns (parts_of Shared rows) c.args.self.base.system.rows)
                (sym names) held.has_rows.of.rows);
          };
          flags = ap length c.in_ok-answer.ensures.live ∙ held.has_rows.flags;
        };
        live = ap (live_credentials rows) c.in_ok-answer.ensures.live ∙ held.live;
        newest = held.newest;
        steady = held.steady;
      };
    }
