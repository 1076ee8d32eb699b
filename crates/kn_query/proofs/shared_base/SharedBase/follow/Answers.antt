use Rattle.std.proofs.Common.{rules, ◌≡◌, ◌<◌, ◌≤◌, ℕ, All, Bool, true, List, ◌++◌, drop, length, replicate, take, sym}
use Rattle.std.proofs.Common.{ap, subst, ◌∙◌, arith}
use Rattle.std.proofs.lemmas.List.{length-append}
use Rattle.std.proofs.lemmas.List.Elements.{All-nil, All-weaker}
use Rattle.kn_proof.specs.declared.named.Id.TheVariants.{Shared}
use Rattle.kn_history.specs.declared.update.Update.{Update}
use Rattle.kn_history.specs.History.{NumberedText, additions, all_changes, credentials_of}
use Rattle.kn_daemon.specs.Daemon.{parts_of}
use Rattle.kn_system.specs.Equations.{SystemEquations, node_total}
use Rattle.kn_query.specs.declared.shared_base.SharedBase.{SharedBase}
use Rattle.kn_query.specs.declared.shared_base.TheConstants.{MOST_NODES, MOST_PRINCIPALS}
use Rattle.kn_query.specs.ChangedRows.{AreBelow, HasRow}
use Rattle.kn_query.specs.Following.{live_credentials, without_removed}
use Rattle.kn_query.specs.SharedBases.{HasCredentials}
use Rattle.kn_query.specs.Steady.{KeepsLevel}
use Rattle.kn_query.proofs.FoundValues.{in-some}
use Rattle.kn_query.proofs.LaterVersions.{above-lower, credentials-since, newer-above}
use Rattle.kn_query.proofs.Rows.{live-up_to, same-base}
use Rattle.kn_query.proofs.SteadyLevels.{level-kept, with-steady}
use Rattle.kn_query.proofs.shared_base.SharedBase.follow.Goals.{else-branch, then-branch}
use Rattle.kn_query.proofs.shared_base.SharedBase.follow.Goals as goal

pub extend-requires : goal.extend-requires
extend-requires c =
    let version : List Update = c.args.version.now in
    let n : ℕ = c.args.self.number in
    let rows : List NumberedText = c.args.self.rows in
    let held = c.requires.of_earlier.credentials in
    let base = c.follow_removals.new.base in
    let follows = c.follow_removals.ensures.follows in
    let more : List NumberedText = credentials_of (drop n version) in
    let most : ℕ = additions (all_changes (take n version)) in
    let live : credentials_of version ≡ live_credentials rows base.live ++ more =
    credentials-since version n
    ∙ ap (λ (l : List NumberedText). l ++ more) (ap (without_removed (all_changes (drop n version))) (sym held.live)
    ∙ sym follows.live) in
    let few : length c.args.self.base.names ≤ MOST_PRINCIPALS = search rules in
    let small : node_total c.args.self.base.system.rows ≤ MOST_NODES = search rules in
    record {
      lacks = record {
        earlier = c.requires.later;
        has_rows = record {
          of = same-base (parts_of Shared rows) c.args.self.base.names base.names c.args.self.base.system base.system
              follows.names follows.system held.has_rows.of;
          flags = follows.flags ∙ held.has_rows.flags;
        };
        live = live;
        newest = held.newest;
      };
      names = omega (arith, ap length follows.names, few);
      nodes = omega (arith, ap (λ (s : SystemEquations). node_total s.rows) follows.system, small);
      kept = c.count_up_to-kept.ensures (live_credentials rows base.live) more live
          (live-up_to c.last_id.result rows base.live c.last_id.ensures.last)
          (above-lower c.last_id.result most more (c.last_id.ensures.least most held.newest)
          (newer-above version n c.number.ensures.valid));
    }

pub keep_policy_level-requires : goal.keep_policy_level-requires
keep_policy_level-requires c =
    let flags : List Bool = c.args.self.base.live in
    let followed : SharedBase = c.in-Some.followed in
    let follows = c.follow_removals.ensures.follows in
    let on = in-some _ _ _ c.in-Some.is c.in_ok-followed.ensures.goes_on in
    let has = in-some _ _ _ c.in-Some.is c.in_ok-followed.ensures.credentials in
    let grown : length flags ≤ length followed.base.live =
    omega (
      arith,
      follows.flags,
      ap length on.live,
      length-append c.follow_removals.new.base.live (replicate (length on.more) true),
    ) in
    let noted : AreBelow (length flags) c.follow_removals.new.changed =
    c.follow_removals.ensures.notes.below
    (subst (All (λ (row : ℕ). row < length flags)) (sym c.new-changed.ensures.rows)
    (All-nil (λ (row : ℕ). row < length flags))) in
    c.add_range.ensures.below (length followed.base.live) (omega (arith, c.len-2.ensures.count, has.has_rows.flags))
    (All-weaker (λ (row : ℕ). row < length flags) (λ (row : ℕ). row < length followed.base.live)
    (λ row less. omega (arith, less, grown)) c.follow_removals.new.changed.rows.items noted)

pub returns : goal.returns
returns c =
    let version : List Update = c.args.version.now in
    let n : ℕ = c.args.self.number in
    let rows : List NumberedText = c.args.self.rows in
    let flags : List Bool = c.args.self.base.live in
    let mid : List Bool = c.follow_removals.new.base.live in
    let held = c.requires.of_earlier.credentials in
    let follows = c.follow_removals.ensures.follows in
    let notes = c.follow_removals.ensures.notes in
    let followed : SharedBase = c.in-Some.followed in
    let on = in-some _ _ _ c.in-Some.is c.in_ok-followed.ensures.goes_on in
    let has = in-some _ _ _ c.in-Some.is c.in_ok-followed.ensures.credentials in
    let added : (row : ℕ) → length rows ≤ row → row < length followed.rows → HasRow c.add_range.new.self row =
    λ row low high. c.add_range.ensures.has row (omega (arith, low, c.len-rows.ensures.count))
    (omega (arith, high, c.len-2.ensures.count)) in
    let kept : c.in_ok-keep_policy_level.field-0 ≡ true → KeepsLevel (take n version) version =
    λ keep. level-kept (take n version) version rows on.more flags mid followed c.follow_removals.new.changed
    c.add_range.new.self held.has_rows.flags held.live follows.flags notes.others c.add_range.ensures.keeps added
    (c.in_ok-keep_policy_level.ensures.few keep) on.rows on.live c.len-2.ensures.read has
    (c.in_ok-keep_policy_level.ensures.kept keep) in
    record {
      of_version = c.into_kept.ensures version (elim c.if-branch.branch [
        | then-branch w ↦ with-steady version followed c.if-branch.followed w.since-followed.result w.followed-is
            (w.since-followed.ensures.steady version c.requires.later held.steady (kept w.if-branch.true)) has
        | else-branch w ↦ subst (HasCredentials version) (sym w.followed-is) has
      ]);
    }
