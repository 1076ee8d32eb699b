use Rattle.std.proofs.Common.{sym, subst, ◌∙◌, All}
use Rattle.kn_base.specs.declared.span.Span.{Span}
use Rattle.std.specs.Prelude.{List}
use Rattle.kn_files.specs.Pieces.{IsWithin}
use Rattle.kn_files.specs.declared.within.Within.TheVariants.{Plain}
use Rattle.kn_files.proofs.Splitting.{IsSplit, IsFirstLine, split_start, split_on, split_cut, split_end}
use Rattle.kn_files.proofs.Rows.{spans_within}
use Rattle.kn_files.proofs.split.split_file.Goals as goal
use Rattle.kn_files.proofs.split.split_file.Goals.{then-is_cut+in_ok-push_piece, else-is_cut}

pub loop-at-init : goal.loop-at-init
loop-at-init c = subst (λ (spans : List Span). IsSplit c.args.file.now 0 0 Plain spans) (sym c.new-spans.ensures)
    (split_start c.args.file.now)

pub loop-at-preserved : goal.loop-at-preserved
loop-at-preserved c =
    let line : IsFirstLine c.args.file.now c.loop-at.at c.split_at.result.1.now c.split_at-in-loop-at.result.0.now
    c.line_size.result =
    record {
      left = c.split_at.ensures.back;
      front = c.split_at-in-loop-at.ensures.front;
      size =
          c.line_size.ensures.within;
      cut = c.line_size.ensures.line;
    } in
    elim c.if-is_cut.branch [
      | then-is_cut+in_ok-push_piece w ↦
          rw w.start-is (split_cut _ _ _ _ _ _ _ _ _ _ c.loop-at.invariant line (sym c.is_cut.ensures
          ∙ w.if-is_cut.true) c.after_line-within.ensures (w.spans-is ∙ w.in_ok-push_piece.ensures))
      | else-is_cut w ↦
          rw w.start-is (split_on _ _ _ _ _ _ _ _ _ _ c.loop-at.invariant line (sym c.is_cut.ensures
          ∙ w.if-is_cut.false) c.after_line-within.ensures w.spans-is)
    ]

pub returns-clause-spans : goal.returns-clause-spans
returns-clause-spans c = split_end _ _ _ _ _ _ c.loop-at.invariant c.loop-at-test.false (c.in_ok-push_piece-2.ensures)

pub returns-clause-within : goal.returns-clause-within
returns-clause-within c =
    subst (All (IsWithin c.args.file.now)) (sym (returns-clause-spans c)) (spans_within c.args.file.now)
