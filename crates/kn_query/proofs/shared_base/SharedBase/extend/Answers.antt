use Rattle.std.proofs.Common.{◌≡◌, ◌≤◌, ◌++◌, ℕ, All, Bool, List, drop, length, replicate, take, true, sym, ap, subst}
use Rattle.std.proofs.Common.{◌∙◌, arith}
use Rattle.std.proofs.lemmas.List.{drop_at, length-append, length-replicate}
use Rattle.kn_proof.specs.declared.named.Id.TheVariants.{Shared}
use Rattle.kn_meaning.specs.Equations.{Part}
use Rattle.kn_history.specs.declared.update.Update.{Update}
use Rattle.kn_history.specs.History.{NumberedText, additions, all_changes, credentials_of, text_bytes}
use Rattle.kn_history.specs.Ids.{IdsAscend}
use Rattle.kn_daemon.specs.Daemon.{parts_of}
use Rattle.kn_rows.specs.BaseRows.{IsBaseOf}
use Rattle.kn_rows.specs.Sizes.{HaveTexts, IsReadablePart, total_size}
use Rattle.kn_query.specs.Following.{AreUpTo, live_credentials}
use Rattle.kn_query.specs.SharedParts.{AreRead}
use Rattle.kn_query.proofs.LaterVersions.{additions-grow, all-both, newer-above, newer-up_to, up_to-more}
use Rattle.kn_query.proofs.Rows.{ascend-both, ascend-last, later-bytes, later-parts, live-both}
use Rattle.kn_query.proofs.SharedParts.{parts-count, parts-readable, parts-size, shared-texts}
use Rattle.kn_query.proofs.shared_base.SharedBase.extend.Goals as goal

pub push_shared-requires : goal.push_shared-requires
push_shared-requires c =
    let lacks = c.requires.lacks in
    let left : List NumberedText = live_credentials c.args.self.rows c.args.self.base.live in
    let more : List NumberedText = credentials_of (drop c.args.self.number c.args.version.now) in
    omega (arith, c.requires.kept, ap length lacks.live, length-append left more)

pub count_nodes-requires : goal.count_nodes-requires
count_nodes-requires c =
    let version : List Update = c.args.version.now in
    let lacks = c.requires.lacks in
    let left : List NumberedText = live_credentials c.args.self.rows c.args.self.base.live in
    let more : List NumberedText = credentials_of (drop c.args.self.number version) in
    let rest : drop c.args.kept (credentials_of version) ≡ more =
    ap (drop c.args.kept) lacks.live ∙ drop_at left more c.args.kept (sym c.requires.kept) in
    let read : AreRead more = subst (λ (l : List NumberedText). AreRead l) rest c.in_ok-push_shared.ensures.read in
    let pushed : c.push_shared.new.parts ≡ parts_of Shared more =
    c.in_ok-push_shared.ensures.parts
    ∙ ap (λ (l : List Part). l ++ parts_of Shared (drop c.args.kept (credentials_of version))) c.new-parts.ensures
    ∙ ap (parts_of Shared) rest in
    let bytes : text_bytes more ≤ text_bytes (credentials_of version) =
    subst (λ (l : List NumberedText). text_bytes more ≤ text_bytes l) (sym lacks.live) (later-bytes left more) in
    subst (λ (l : List Part). HaveTexts l) (sym pushed)
    (shared-texts c.assertions_of_a_session.ensures.bytes more read
    (omega (arith, bytes, c.len-live.ensures.bytes_limit)))

pub extend_all-requires : goal.extend_all-requires
extend_all-requires c =
    let version : List Update = c.args.version.now in
    let lacks = c.requires.lacks in
    let left : List NumberedText = live_credentials c.args.self.rows c.args.self.base.live in
    let more : List NumberedText = credentials_of (drop c.args.self.number version) in
    let rest : drop c.args.kept (credentials_of version) ≡ more =
    ap (drop c.args.kept) lacks.live ∙ drop_at left more c.args.kept (sym c.requires.kept) in
    let read : AreRead more = subst (λ (l : List NumberedText). AreRead l) rest c.in_ok-push_shared.ensures.read in
    let pushed : c.push_shared.new.parts ≡ parts_of Shared more =
    c.in_ok-push_shared.ensures.parts
    ∙ ap (λ (l : List Part). l ++ parts_of Shared (drop c.args.kept (credentials_of version))) c.new-parts.ensures
    ∙ ap (parts_of Shared) rest in
    let told = c.readings_are_computed.ensures.reading in
    let size = parts-size told c.readings_are_sound.ensures Shared more read in
    let bytes : text_bytes more ≤ text_bytes (credentials_of version) =
    subst (λ (l : List NumberedText). text_bytes more ≤ text_bytes l) (sym lacks.live) (later-bytes left more) in
    let total = ap total_size pushed in
    record {
      readable = subst (All IsReadablePart) (sym pushed)
          (parts-readable told c.readings_are_sound.ensures Shared more read);
      names_fit = omega (arith, total, size, bytes, c.len-live.ensures.bytes_limit, c.requires.names);
      nodes_fit = omega (arith, total, size, bytes, c.len-live.ensures.bytes_limit, c.requires.nodes);
    }

pub push_from-requires : goal.push_from-requires
push_from-requires c =
    let version : List Update = c.args.version.now in
    let n : ℕ = c.args.self.number in
    let lacks = c.requires.lacks in
    let rows : List NumberedText = c.args.self.rows in
    let left : List NumberedText = live_credentials rows c.args.self.base.live in
    let more : List NumberedText = credentials_of (drop n version) in
    let most : ℕ = additions (all_changes (take n version)) in
    let rest : drop c.args.kept (credentials_of version) ≡ more =
    ap (drop c.args.kept) lacks.live ∙ drop_at left more c.args.kept (sym c.requires.kept) in
    let later : IdsAscend most more =
    ascend-last 0 most left more (subst (IdsAscend 0) lacks.live c.len-live.ensures.ids)
    (newer-above version n c.number-number.ensures.valid) in
    record {
      first = omega (arith, c.requires.kept, ap length lacks.live, length-append left more);
      ids = subst (λ (l : List NumberedText). IdsAscend 0 (rows ++ l)) (sym rest)
          (ascend-both 0 most rows more (omega arith) c.len-ids.ensures.ids lacks.newest later);
    }

pub returns : goal.returns
returns c =
    let version : List Update = c.args.version.now in
    let n : ℕ = c.args.self.number in
    let lacks = c.requires.lacks in
    let rows : List NumberedText = c.args.self.rows in
    let flags : List Bool = c.args.self.base.live in
    let left : List NumberedText = live_credentials rows flags in
    let more : List NumberedText = credentials_of (drop n version) in
    let most : ℕ = additions (all_changes version) in
    let rest : drop c.args.kept (credentials_of version) ≡ more =
    ap (drop c.args.kept) lacks.live ∙ drop_at left more c.args.kept (sym c.requires.kept) in
    let read : AreRead more = subst (λ (l : List NumberedText). AreRead l) rest c.in_ok-push_shared.ensures.read in
    let pushed : c.push_shared.new.parts ≡ parts_of Shared more =
    c.in_ok-push_shared.ensures.parts
    ∙ ap (λ (l : List Part). l ++ parts_of Shared (drop c.args.kept (credentials_of version))) c.new-parts.ensures
    ∙ ap (parts_of Shared) rest in
    let all : c.push_from.new.self ≡ rows ++ more = c.in_ok-push_from.ensures
    ∙ ap (λ (l : List NumberedText). rows ++ l) rest in
    let whole : parts_of Shared rows ++ c.push_shared.new.parts ≡ parts_of Shared c.push_from.new.self =
    ap (λ (ps : List Part). parts_of Shared rows ++ ps) pushed ∙ sym (later-parts Shared rows more)
    ∙ ap (parts_of Shared) (sym all) in
    let count : length c.push_shared.new.parts ≡ length more = ap length pushed ∙ parts-count Shared more read in
    let longer : c.in_ok-base.base.live ≡ flags ++ replicate (length more) true =
    c.in_ok-base.ensures.live ∙ ap (λ (k : ℕ). flags ++ replicate k true) count in
    record {
      credentials = record {
        number = c.number-number.ensures.number;
        has_rows = record {
          of = subst (λ (ps : List Part). IsBaseOf ps c.in_ok-base.base.names c.in_ok-base.base.system) whole
              (c.in_ok-base.ensures.base (parts_of Shared rows) lacks.has_rows.of);
          flags = omega (
            arith,
            ap length longer,
            length-append flags (replicate (length more) true),
            length-replicate (length more) true,
            lacks.has_rows.flags,
            ap length all,
            length-append rows more,
          );
        };
        live = ap (λ (l : List NumberedText). live_credentials l c.in_ok-base.base.live) all
            ∙ ap (live_credentials (rows ++ more)) longer
            ∙ live-both rows more flags lacks.has_rows.flags ∙ sym lacks.live;
        newest = subst (AreUpTo most) (sym all)
            (all-both (λ x. x.id ≤ most) rows more
            (up_to-more (additions (all_changes (take n version))) most rows (additions-grow version n) lacks.newest)
            (newer-up_to version n c.number-number.ensures.valid));
        steady = c.at.ensures.steady version c.number-number.ensures.number;
      };
      goes_on = record { more = more; rows = all; live = longer };
    }
