use Rattle.std.proofs.Common.{◌≡◌, ℕ, ◌+◌, ◌^◌, ◌<◌, List, [], length, map, ap, ◌∙◌, subst, arith}
use Rattle.kn_env.specs.Environment.{Asked}
use Rattle.kn_meaning.specs.Equations.{Part}
use Rattle.kn_system.specs.Equations.{SystemEquations, node_total}
use Rattle.kn_rows.specs.BaseRows.{IsBaseOf}
use Rattle.kn_rows.specs.Numbering.{with_names}
use Rattle.kn_rows.specs.Sizes.{total_size}
use Rattle.kn_rows.proofs.NamesAdded.{length-with_names}
use Rattle.kn_rows.proofs.SizesAdded.{length-total_size}
use Rattle.kn_rows.proofs.Texts.{texts_readable, texts_small}
use Rattle.kn_answer.proofs.NarrowedBases.{authorizers-numbered, leveled_names, narrowed-leveled, policy-base}
use Rattle.kn_answer.proofs.base.Base.of_leveled.Goals.{In_ok-numbers}
use Rattle.kn_answer.proofs.base.Base.of_leveled.Goals as goal

-- the names are those that may have a level
entered : (c : In_ok-numbers) → c.numbers.new.self.names ≡ leveled_names c.args.query.now c.args.list.now
entered c =
    let asked : Asked = c.args.query.now in
    let authorizers : List (List ℕ) = map (λ (part : Part). part.assertion.authorizer) c.args.list.now in
    c.in_ok-numbers.ensures.entered
    ∙ ap (with_names c.number_authorizers.new.numbered.names) c.requesters.ensures.requesters
    ∙ ap (λ names. with_names names asked.requesters) (c.in_ok-number_authorizers.ensures.entered
    ∙ ap (λ names. with_names names authorizers) c.in_ok-numbered.ensures.names)

pub number_authorizers-requires-clause-few : goal.number_authorizers-requires-clause-few
number_authorizers-requires-clause-few c =
    let list : List Part = c.args.list.now in
    let small : 65 + total_size list < 2 ^ 24 =
    texts_small c.readings_are_computed.ensures.reading c.readings_are_sound.ensures list c.requires in
    let alone = ap length c.in_ok-numbered.ensures.names in
    omega (arith, alone, small, length-total_size list)

pub numbers-requires-clause-few : goal.numbers-requires-clause-few
numbers-requires-clause-few c =
    let list : List Part = c.args.list.now in
    let small : 65 + total_size list < 2 ^ 24 =
    texts_small c.readings_are_computed.ensures.reading c.readings_are_sound.ensures list c.requires in
    omega (
      arith,
      small,
      length-total_size list,
      length-with_names c.number_authorizers.new.numbered.names c.requesters.result.now,
      ap length c.requesters.ensures.requesters,
      c.requesters.ensures.right.few,
      c.in_ok-number_authorizers.ensures.names,
      ap length c.in_ok-numbered.ensures.names,
    )

pub add_narrowed_rows-requires : goal.add_narrowed_rows-requires
add_narrowed_rows-requires c =
    let list : List Part = c.args.list.now in
    let small : 65 + total_size list < 2 ^ 24 =
    texts_small c.readings_are_computed.ensures.reading c.readings_are_sound.ensures list c.requires in
    let none : c.numbers.new.self.system.rows ≡ [] = c.in_ok-numbers.ensures.rows
    ∙ c.in_ok-number_authorizers.ensures.rows ∙ ap (λ (s : SystemEquations). s.rows) c.in_ok-numbered.ensures.system in
    record {
      readable = texts_readable c.readings_are_computed.ensures.reading c.readings_are_sound.ensures c.requires.texts
          list c.requires.read;
      authorizers = authorizers-numbered c.args.query.now list c.numbers.new.self.names
          (entered (goal.at.add_narrowed_rows-requires c).In_ok-numbers);
      nodes_fit = omega (arith, small, ap node_total none);
      one_each = c.in_ok-numbers.ensures.one_each;
      levels = omega (arith, c.levels-levels.ensures.well_formed.levels_fit.0);
    }

pub returns-clause-base : goal.returns-clause-base
returns-clause-base c =
    let start : IsBaseOf [] c.in_ok-numbered.numbered.names c.in_ok-numbered.numbered.system =
    policy-base c.in_ok-numbered.numbered.names c.in_ok-numbered.numbered.system c.in_ok-numbered.ensures.names
    (ap (λ (s : SystemEquations). s.rows) c.in_ok-numbered.ensures.system) in
    subst (λ (parts : List Part).
    IsBaseOf parts c.add_narrowed_rows.new.numbered.names c.add_narrowed_rows.new.numbered.system)
    (narrowed-leveled c.args.query.now c.args.list.now c.numbers.new.self.names
    (entered (goal.at.returns-clause-base c).In_ok-numbers))
    (c.in_ok-add_narrowed_rows.ensures.base [] (c.in_ok-numbers.ensures.base []
    (c.in_ok-number_authorizers.ensures.base [] start)))

pub returns-clause-room : goal.returns-clause-room
returns-clause-room c =
    let list : List Part = c.args.list.now in
    let small : 65 + total_size list < 2 ^ 24 =
    texts_small c.readings_are_computed.ensures.reading c.readings_are_sound.ensures list c.requires in
    omega (
      arith,
      small,
      length-total_size list,
      length-with_names c.add_narrowed_rows.new.numbered.names c.args.query.now.requesters,
      ap length c.in_ok-add_narrowed_rows.ensures.names,
      ap length c.requesters.ensures.requesters,
      c.requesters.ensures.right.few,
      c.in_ok-numbers.ensures.names,
      c.in_ok-number_authorizers.ensures.names,
      ap length c.in_ok-numbered.ensures.names,
    )
