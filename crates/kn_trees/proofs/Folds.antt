-- What is computed of an expression or a program, by what is computed of its parts.
use Rattle.std.proofs.Common.{◌≡◌, ℕ, ℤ, Bool, List, map, sym, ap, ◌∙◌}
use Rattle.kn_trees.specs.declared.program.Expr.{Expr}
use Rattle.kn_trees.specs.declared.program.Link2.{Link2}
use Rattle.kn_trees.specs.declared.program.Comparison.{Comparison}
use Rattle.kn_trees.specs.declared.program.Expr.TheVariants.{Truth, Whole, Text, Name, Not, Minus, Number, Deref, And}
use Rattle.kn_trees.specs.declared.program.Expr.TheVariants.{Or, Compare, Chain, rolls-Truth, rolls-Whole, rolls-Text}
use Rattle.kn_trees.specs.declared.program.Expr.TheVariants.{rolls-Name, rolls-Not, rolls-Minus, rolls-Number}
use Rattle.kn_trees.specs.declared.program.Expr.TheVariants.{rolls-Deref, rolls-And, rolls-Or, rolls-Compare}
use Rattle.kn_trees.specs.declared.program.Expr.TheVariants.{rolls-Chain}
use Rattle.kn_trees.specs.declared.program.Expr.TheOpen.{Expr-F, Link2-F}
use Rattle.kn_trees.specs.declared.program.Expr.TheOpen.Expr-F.{Truth as open_Truth, Whole as open_Whole}
use Rattle.kn_trees.specs.declared.program.Expr.TheOpen.Expr-F.{Text as open_Text, Name as open_Name, Not as open_Not}
use Rattle.kn_trees.specs.declared.program.Expr.TheOpen.Expr-F.{Minus as open_Minus, Number as open_Number}
use Rattle.kn_trees.specs.declared.program.Expr.TheOpen.Expr-F.{Deref as open_Deref, And as open_And, Or as open_Or}
use Rattle.kn_trees.specs.declared.program.Expr.TheOpen.Expr-F.{Compare as open_Compare, Chain as open_Chain}
use Rattle.kn_trees.specs.declared.program.Expr.TheFolds.{fold-Expr, fold-roll-Expr, fold-Link2, fold-roll-Link2}
use Rattle.kn_trees.specs.declared.program.Program.{Program, out-Program}
use Rattle.kn_trees.specs.declared.program.Clause.{Clause}
use Rattle.kn_trees.specs.declared.program.Then.TheVariants.{Top, Value, Block, rolls-Top, rolls-Value, rolls-Block}
use Rattle.kn_trees.specs.declared.program.Then.TheOpen.{Program-F, Clause-F, Then-F}
use Rattle.kn_trees.specs.declared.program.Then.TheOpen.Then-F.{Top as open_Top, Value as open_Value}
use Rattle.kn_trees.specs.declared.program.Then.TheOpen.Then-F.{Block as open_Block}
use Rattle.kn_trees.specs.declared.program.Then.TheFolds.{fold-Program, fold-Clause, fold-Then, fold_out-Program}
use Rattle.kn_trees.specs.declared.program.Then.TheFolds.{fold-roll-Clause, fold-roll-Then}

module _ (X : Type 0) (Y : Type 0) (step : Expr-F X Y → X) (link_step : Link2-F X Y → Y) where
  pub fold-Truth : (value : Bool) → fold-Expr X Y step link_step (Truth value) ≡ step (open_Truth value)
  fold-Truth value = ap (fold-Expr X Y step link_step) (sym (rolls-Truth value))
      ∙ fold-roll-Expr X Y step link_step (open_Truth value)

  pub fold-Whole : (value : ℤ) → fold-Expr X Y step link_step (Whole value) ≡ step (open_Whole value)
  fold-Whole value = ap (fold-Expr X Y step link_step) (sym (rolls-Whole value))
      ∙ fold-roll-Expr X Y step link_step (open_Whole value)

  pub fold-Text : (value : List ℕ) → fold-Expr X Y step link_step (Text value) ≡ step (open_Text value)
  fold-Text value = ap (fold-Expr X Y step link_step) (sym (rolls-Text value))
      ∙ fold-roll-Expr X Y step link_step (open_Text value)

  pub fold-Name : (name : List ℕ) → fold-Expr X Y step link_step (Name name) ≡ step (open_Name name)
  fold-Name name = ap (fold-Expr X Y step link_step) (sym (rolls-Name name))
      ∙ fold-roll-Expr X Y step link_step (open_Name name)

  pub fold-Not : (part : Expr)
      → fold-Expr X Y step link_step (Not part) ≡ step (open_Not (fold-Expr X Y step link_step part))
  fold-Not part = ap (fold-Expr X Y step link_step) (sym (rolls-Not part))
      ∙ fold-roll-Expr X Y step link_step (open_Not part)

  pub fold-Minus : (part : Expr)
      → fold-Expr X Y step link_step (Minus part) ≡ step (open_Minus (fold-Expr X Y step link_step part))
  fold-Minus part = ap (fold-Expr X Y step link_step) (sym (rolls-Minus part))
      ∙ fold-roll-Expr X Y step link_step (open_Minus part)

  pub fold-Number : (part : Expr)
      → fold-Expr X Y step link_step (Number part) ≡ step (open_Number (fold-Expr X Y step link_step part))
  fold-Number part = ap (fold-Expr X Y step link_step) (sym (rolls-Number part))
      ∙ fold-roll-Expr X Y step link_step (open_Number part)

  pub fold-Deref : (part : Expr)
      → fold-Expr X Y step link_step (Deref part) ≡ step (open_Deref (fold-Expr X Y step link_step part))
  fold-Deref part = ap (fold-Expr X Y step link_step) (sym (rolls-Deref part))
      ∙ fold-roll-Expr X Y step link_step (open_Deref part)

  pub fold-And : (parts : List Expr)
      → fold-Expr X Y step link_step (And parts) ≡ step (open_And (map (fold-Expr X Y step link_step) parts))
  fold-And parts = ap (fold-Expr X Y step link_step) (sym (rolls-And parts))
      ∙ fold-roll-Expr X Y step link_step (open_And parts)

  pub fold-Or : (parts : List Expr)
      → fold-Expr X Y step link_step (Or parts) ≡ step (open_Or (map (fold-Expr X Y step link_step) parts))
  fold-Or parts = ap (fold-Expr X Y step link_step) (sym (rolls-Or parts))
      ∙ fold-roll-Expr X Y step link_step (open_Or parts)

  pub fold-Compare : (sign : Comparison) (left right : Expr)
      → fold-Expr X Y step link_step (Compare sign left right)
      ≡ step (open_Compare sign (fold-Expr X Y step link_step left) (fold-Expr X Y step link_step right))
  fold-Compare sign left right =
      ap (fold-Expr X Y step link_step) (sym (rolls-Compare sign left right))
      ∙ fold-roll-Expr X Y step link_step (open_Compare sign left right)

  pub fold-Link : (link : Link2)
      → fold-Link2 X Y step link_step link
      ≡ link_step (record { sign = link.sign; right = fold-Expr X Y step link_step link.right })
  fold-Link link = fold-roll-Link2 X Y step link_step (record { sign = link.sign; right = link.right })

  pub fold-Chain : (first : Expr) (links : List Link2)
      → fold-Expr X Y step link_step (Chain first links)
      ≡ step (open_Chain (fold-Expr X Y step link_step first) (map (fold-Link2 X Y step link_step) links))
  fold-Chain first links =
      ap (fold-Expr X Y step link_step) (sym (rolls-Chain first links))
      ∙ fold-roll-Expr X Y step link_step (open_Chain first links)

module _ (X : Type 0) (Y : Type 0) (Z : Type 0) (then : Then-F X Y Z → X) (clause : Clause-F X Y Z
    → Y) (program : Program-F X Y Z → Z) where
  pub fold-Top : fold-Then X Y Z then clause program Top ≡ then open_Top
  fold-Top = ap (fold-Then X Y Z then clause program) (sym rolls-Top)
      ∙ fold-roll-Then X Y Z then clause program open_Top

  pub fold-Value : (value : Expr) → fold-Then X Y Z then clause program (Value value) ≡ then (open_Value value)
  fold-Value value = ap (fold-Then X Y Z then clause program) (sym (rolls-Value value))
      ∙ fold-roll-Then X Y Z then clause program (open_Value value)

  pub fold-Block : (block : Program)
      → fold-Then X Y Z then clause program (Block block)
      ≡ then (open_Block (fold-Program X Y Z then clause program block))
  fold-Block block = ap (fold-Then X Y Z then clause program) (sym (rolls-Block block))
      ∙ fold-roll-Then X Y Z then clause program (open_Block block)

  pub fold-one_clause : (one : Clause)
      → fold-Clause X Y Z then clause program one
      ≡ clause (record { test = one.test; then = fold-Then X Y Z then clause program one.then })
  fold-one_clause one = fold-roll-Clause X Y Z then clause program (record { test = one.test; then = one.then })

  pub fold-whole_program : (whole : Program)
      → fold-Program X Y Z then clause program whole
      ≡ program (record { clauses = map (fold-Clause X Y Z then clause program) (out-Program whole).clauses })
  fold-whole_program whole = fold_out-Program X Y Z then clause program whole
