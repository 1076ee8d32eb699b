-- The lines of the grammar, by which derivations are taken apart.
pub use Rattle.kn_program.specs.Grammar.Or.{ands, either}
pub use Rattle.kn_program.specs.Grammar.And.{nots, each}
pub use Rattle.kn_program.specs.Grammar.Not.{cmp, negated}
pub use Rattle.kn_program.specs.Grammar.Cmp.{sum, compared}
pub use Rattle.kn_program.specs.Grammar.Sum.{product, added}
pub use Rattle.kn_program.specs.Grammar.Product.{power, multiplied}
pub use Rattle.kn_program.specs.Grammar.Power.{unary, raised}
pub use Rattle.kn_program.specs.Grammar.Unary.{atom, signed}
pub use Rattle.kn_program.specs.Grammar.Atom.{group, literal, number, truth, name}
pub use Rattle.kn_program.specs.Grammar.Program.{ends, goes_on}
pub use Rattle.kn_program.specs.Grammar.Entry.{nothing, something}
pub use Rattle.kn_program.specs.Grammar.Clause.{bare, valued, nested}
