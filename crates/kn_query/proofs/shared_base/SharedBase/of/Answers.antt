use Rattle.std.proofs.Common.{◌≡◌, ℕ, List, ◌++◌, length, replicate, true, sym, ap, subst, ◌∙◌, arith}
use Rattle.std.proofs.lemmas.List.{length-replicate}
use Rattle.kn_proof.specs.declared.named.Id.TheVariants.{Shared}
use Rattle.kn_meaning.specs.Equations.{Part}
use Rattle.kn_history.specs.declared.update.Update.{Update}
use Rattle.kn_history.specs.History.{NumberedText, additions, all_changes, credentials_of}
use Rattle.kn_history.specs.Ids.{IdsAscend}
use Rattle.kn_daemon.specs.Daemon.{parts_of}
use Rattle.kn_rows.specs.BaseRows.{IsBaseOf}
use Rattle.kn_rows.specs.Sizes.{HaveTexts, total_size}
use Rattle.kn_query.specs.Following.{AreUpTo, live_credentials}
use Rattle.kn_query.specs.SharedParts.{shared_parts}
use Rattle.kn_query.proofs.LaterVersions.{ids-up_to}
use Rattle.kn_query.proofs.Rows.{live-everything}
use Rattle.kn_query.proofs.FoundValues.{in-some}
use Rattle.kn_query.proofs.SharedParts.{parts-count, parts-size, shared-texts}
use Rattle.kn_query.proofs.shared_base.SharedBase.of.Goals as goal

pub of-requires : goal.of-requires
of-requires c =
    let whole = c.in_ok-push_shared.ensures.parts
    ∙ ap (λ (l : List Part). l ++ shared_parts c.args.version.now) c.new-parts.ensures in
    subst (λ (l : List Part). HaveTexts l) (sym whole)
    (shared-texts c.assertions_of_a_session.ensures.bytes (credentials_of c.args.version.now)
    c.in_ok-push_shared.ensures.read c.len-live.ensures.bytes_limit)

pub push_from-requires-clause-ids : goal.push_from-requires-clause-ids
push_from-requires-clause-ids c =
    subst (λ (l : List NumberedText). IdsAscend 0 (l ++ credentials_of c.args.version.now)) (sym c.new-rows.ensures)
    c.len-live.ensures.ids

pub returns : goal.returns
returns c =
    let version : List Update = c.args.version.now in
    let live : List NumberedText = credentials_of version in
    let read = c.in_ok-push_shared.ensures.read in
    let whole = c.in_ok-push_shared.ensures.parts
    ∙ ap (λ (l : List Part). l ++ shared_parts version) c.new-parts.ensures in
    let rows : c.push_from.new.self ≡ live = c.in_ok-push_from.ensures
    ∙ ap (λ (l : List NumberedText). l ++ live) c.new-rows.ensures in
    let size = parts-size c.readings_are_computed.ensures.reading c.readings_are_sound.ensures Shared live read in
    let total = ap total_size whole in
    let count : length c.push_shared.new.parts ≡ length live = ap length whole ∙ parts-count Shared live read in
    let all = in-some _ _ _ c.in-Some.is c.in_ok-base.ensures.all in
    let few_names = in-some _ _ _ c.in-Some.is c.in_ok-base.ensures.few_names in
    let few_nodes = in-some _ _ _ c.in-Some.is c.in_ok-base.ensures.few_nodes in
    record {
      credentials = record {
        number = c.number-number.ensures.number;
        has_rows = record {
          of = subst (λ (ps : List Part). IsBaseOf ps c.in-Some.base.names c.in-Some.base.system) (whole
              ∙ ap (parts_of Shared) (sym rows)) (in-some _ _ _ c.in-Some.is c.in_ok-base.ensures.base);
          flags = ap length all ∙ length-replicate (length c.push_shared.new.parts) true ∙ count
              ∙ ap length (sym rows);
        };
        live = ap (λ (l : List NumberedText). live_credentials l c.in-Some.base.live) rows
            ∙ ap (live_credentials live) (all ∙ ap (λ (n : ℕ). replicate n true) count)
            ∙ live-everything live;
        newest = subst (AreUpTo (additions (all_changes version))) (sym rows)
            (ids-up_to version c.number-number.ensures.valid);
        steady = c.at.ensures.steady version c.number-number.ensures.number;
      };
      few_names = omega (arith, total, size, few_names, c.len-live.ensures.bytes_limit);
      few_nodes = omega (arith, total, size, few_nodes, c.len-live.ensures.bytes_limit);
    }
