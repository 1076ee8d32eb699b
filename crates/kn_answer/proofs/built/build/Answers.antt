use Rattle.std.proofs.Common.{◌≡◌, ◌∙◌, ap, sym, length}
use Rattle.std.proofs.lemmas.List.{length-map}
use Rattle.std.proofs.lemmas.Simd.{map-map}
use Rattle.kn_meaning.specs.Equations.{equations_over, statement_of}
use Rattle.kn_rows.proofs.NewNames.{AreNumbered-length}
use Rattle.kn_rows.proofs.Texts.{texts_readable, texts_small}
use Rattle.kn_answer.proofs.StatementRows.{length-rows}
use Rattle.kn_answer.proofs.built.build.Goals as goal

pub numbered_query-requires-clause-readable : goal.numbered_query-requires-clause-readable
numbered_query-requires-clause-readable c =
    texts_readable c.readings_are_computed.ensures.reading c.readings_are_sound.ensures c.requires.texts c.args.list.now
    c.requires.read

pub numbered_query-requires-clause-small : goal.numbered_query-requires-clause-small
numbered_query-requires-clause-small c =
    texts_small c.readings_are_computed.ensures.reading c.readings_are_sound.ensures c.args.list.now c.requires

pub invariant_of-result : goal.invariant_of-result
invariant_of-result c =
    let of = c.in_ok-names.ensures.system in
    let e = equations_over c.args.query.now c.args.list.now in
    let rows : length e.statements ≡ length c.in_ok-names.field-0.system.rows =
    length-rows e.top c.in_ok-names.field-0.names e.statements c.in_ok-names.field-0.system.rows of.rows in
    let many : length e.statements ≡ length c.args.list.now = simp length-map in
    let ids : length c.in_ok-ids.ids ≡ length c.args.list.now = ap length c.in_ok-ids.ensures ∙ simp length-map in (
      AreNumbered-length e.requesters c.in_ok-names.field-0.names c.in_ok-names.field-0.system.requesters of.numbered,
      ids ∙ sym many ∙ rows,
    )

pub returns-clause-built : goal.returns-clause-built
returns-clause-built c = record {
  well_formed = c.levels-levels.ensures.well_formed;
  of = c.in_ok-names.ensures.system;
  principals = c.in_ok-names.ensures.principals;
  ids = c.in_ok-ids.ensures ∙ sym (map-map (λ s. s.id) (statement_of c.args.query.now) c.args.list.now);
}
