use Rattle.std.proofs.Common.{◌≡◌, ◌++◌, ℕ, All, List, length, replicate, take, true, sym, ap, ◌∙◌, subst, arith}
use Rattle.std.proofs.lemmas.List.{length-append}
use Rattle.std.proofs.lemmas.Option.{slice_get_within}
use Rattle.kn_principal.specs.Principals.{policy}
use Rattle.kn_meaning.specs.Equations.{IsPolicyLevel, Part, equations_over}
use Rattle.kn_meaning.specs.Proofs as proof
use Rattle.kn_system.specs.Equations.{IsRowOver, IsSystem}
use Rattle.kn_rows.specs.BaseRows.{IsBaseOf}
use Rattle.kn_rows.proofs.BaseRows.{length-base}
use Rattle.kn_rows.proofs.NamesAdded.{length-with_names}
use Rattle.kn_answer.specs.Based.{BaseView}
use Rattle.kn_answer.specs.Removed.{live_parts}
use Rattle.kn_answer.proofs.LongerBases.{first-within, live-more, over-these, take-front, taken-back}
use Rattle.kn_answer.proofs.base.Base.answer_with.Goals as goal

pub of-all-requires : goal.of-all-requires
of-all-requires g c =
    let parts : List Part = g.A.Assertions.parts c.args.assertions.now in
    let flags : length c.args.self.live ≡ length c.args.self.system.rows =
    subst (λ (b : BaseView). length b.live ≡ length b.system.rows) c.self.view_is c.self.invariant.1 in
    c.rows-rows.ensures ∙ flags ∙ sym (length-base c.args.self.names parts c.args.self.system.rows c.requires.base.rows)

pub answer-requires-clause-base : goal.answer-requires-clause-base
answer-requires-clause-base g c =
    let parts : List Part = g.A.Assertions.parts c.args.assertions.now in
    let others : List Part = c.args.others.now in
    let joined : parts ++ others ≡ g.A.Assertions.parts c.of-all.result.first.now ++ c.of-all.result.others.now =
    ap (λ (ps : List Part). ps ++ others) (ap (g.A.Assertions.parts) (sym c.of-all.ensures.first))
    ∙ ap (λ (ps : List Part). g.A.Assertions.parts c.of-all.result.first.now ++ ps) (sym c.of-all.ensures.others) in
    subst (λ (ps : List Part). IsBaseOf ps c.in_ok-base.base.names c.in_ok-base.base.system) joined
    (c.in_ok-base.ensures.base parts c.requires.base)

pub answer-requires-clause-room : goal.answer-requires-clause-room
answer-requires-clause-room g c =
    let entered = length-with_names c.in_ok-base.base.names c.args.query.now.requesters in
    omega (arith, entered, c.in_ok-base.ensures.names, c.requires.room)

pub shorten-requires : goal.shorten-requires
shorten-requires g c =
    let between = taken-back c.args.self c.in_ok-base.base c.answer.new.self c.args.query.now.requesters
    c.in_ok-base.ensures.goes_on c.in_ok-answer.ensures.entered c.answer.ensures.rows in
    let flags : length c.args.self.live ≡ length c.args.self.system.rows =
    subst (λ (b : BaseView). length b.live ≡ length b.system.rows) c.self.view_is c.self.invariant.1 in
    let names : length c.args.self.names ≡ length c.args.self.system.requesters =
    subst (λ (b : BaseView). length b.names ≡ length b.system.requesters) c.self.view_is c.self.invariant.0 in
    let fits : IsSystem c.args.self.system =
    subst (λ (b : BaseView). IsSystem b.system) c.self.view_is c.levels-levels.ensures.well_formed in
    let count : length c.args.self.system.rows ≡ c.rows-rows.result = sym (c.rows-rows.ensures ∙ flags) in
    let back : take c.rows-rows.result c.answer.new.self.system.rows ≡ c.args.self.system.rows =
    subst (λ (n : ℕ). take n c.answer.new.self.system.rows ≡ c.args.self.system.rows) count between.rows in
    let live = ap length (c.answer.ensures.live ∙ c.in_ok-base.ensures.live) in
    record {
      some = omega (
        arith,
        slice_get_within c.args.self.names 0 policy c.requires.base.first,
        c.principals-principals.ensures,
      );
      principals = omega (
        arith,
        first-within c.args.self.names c.answer.new.self.names between.names,
        c.principals-principals.ensures,
      );
      rows = omega (
        arith,
        live,
        length-append c.args.self.live (replicate (length c.args.others.now) true),
        c.rows-rows.ensures,
      );
      over_them = subst (All (IsRowOver c.principals-principals.result)) (sym back)
          (over-these c.args.self.system.levels (length c.args.self.system.requesters) c.principals-principals.result
          c.args.self.system.rows (sym (c.principals-principals.ensures ∙ names)) fits.rows_fit);
    }

pub returns : goal.returns
returns g c =
    let parts : List Part = g.A.Assertions.parts c.args.assertions.now in
    let others : List Part = c.args.others.now in
    let between = taken-back c.args.self c.in_ok-base.base c.answer.new.self c.args.query.now.requesters
    c.in_ok-base.ensures.goes_on c.in_ok-answer.ensures.entered c.answer.ensures.rows in
    let flags : length c.args.self.live ≡ length c.args.self.system.rows =
    subst (λ (b : BaseView). length b.live ≡ length b.system.rows) c.self.view_is c.self.invariant.1 in
    let size : length c.args.self.live ≡ length parts = flags
    ∙ sym (length-base c.args.self.names parts c.args.self.system.rows c.requires.base.rows) in
    let count : length c.args.self.system.rows ≡ c.rows-rows.result = sym (c.rows-rows.ensures ∙ flags) in
    let joined : g.A.Assertions.parts c.of-all.result.first.now ++ c.of-all.result.others.now ≡ parts ++ others =
    ap (λ (ps : List Part). ps ++ c.of-all.result.others.now) (ap (g.A.Assertions.parts) c.of-all.ensures.first)
    ∙ ap (λ (ps : List Part). parts ++ ps) c.of-all.ensures.others in
    let all : live_parts (g.A.Assertions.parts c.of-all.result.first.now ++ c.of-all.result.others.now)
    c.in_ok-base.base.live ≡ live_parts parts c.args.self.live ++ others =
    ap (λ (ps : List Part). live_parts ps c.in_ok-base.base.live) joined
    ∙ ap (live_parts (parts ++ others)) c.in_ok-base.ensures.live
    ∙ live-more parts c.args.self.live others size in
    record {
      proof = subst (λ (ps : List Part). proof.IsProof (equations_over c.args.query.now ps) c.in_ok-answer.answer.rows
          c.in_ok-answer.answer.value) all c.in_ok-answer.ensures.proof;
      least = subst (λ (ps : List Part). IsPolicyLevel (equations_over c.args.query.now ps) c.in_ok-answer.answer.value)
          all c.in_ok-answer.ensures.least;
      below = c.in_ok-answer.ensures.below;
      names = c.shorten.ensures.names ∙ ap (λ n. take n c.answer.new.self.names) c.principals-principals.ensures
          ∙ between.names;
      rows = c.shorten.ensures.rows
          ∙ subst (λ (n : ℕ). take n c.answer.new.self.system.rows ≡ c.args.self.system.rows) count between.rows;
      live =
          c.shorten.ensures.live ∙ ap (λ n. take n c.answer.new.self.live) c.rows-rows.ensures
          ∙ ap (take (length c.args.self.live)) (c.answer.ensures.live ∙ c.in_ok-base.ensures.live)
          ∙ take-front c.args.self.live (replicate (length others) true);
    }
