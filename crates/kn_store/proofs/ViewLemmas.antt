-- What one more change does to the live credentials and what is counted beside them.
use Rattle.std.proofs.Common.{◌≡◌, ℕ, ◌+◌, List, [], ◌∷◌, ◌++◌, sym, ap, ◌∙◌, arith, length-append}
use Rattle.std.proofs.lemmas.List.Sums.{sum_by_push}
use Rattle.kn_history.specs.declared.update.Change.TheVariants.{Add, Remove}
use Rattle.kn_history.specs.declared.update.Numbered.{Numbered}
use Rattle.kn_history.specs.History.{NumberedText, added_count, added_bytes, additions}
use Rattle.kn_history.proofs.Histories.{live-addition, live-removal}
use Rattle.kn_store.specs.LiveView.{LiveView, live_view, with_addition, with_removal}

abbrev made_view : List NumberedText → ℕ → ℕ → ℕ → LiveView
made_view credentials changes logged added =
    record { credentials = credentials; changes = changes; logged = logged; added = added }

same_view : (v w : LiveView) → v.credentials ≡ w.credentials → v.changes ≡ w.changes → v.logged ≡ w.logged
    → v.added ≡ w.added → v ≡ w
same_view v w h i j k =
    ap (λ x. made_view x v.changes v.logged v.added) h ∙ ap (λ x. made_view w.credentials x v.logged v.added) i
    ∙ ap (λ x. made_view w.credentials w.changes x v.added) j ∙ ap (λ x. made_view w.credentials w.changes w.logged x) k

pub view-addition : (past : List Numbered) (text : List ℕ)
    → with_addition (live_view past) text
    ≡ live_view (past ++ record { change = Add text; id = additions past + 1 } ∷ [])
view-addition past text =
    let c : Numbered = record { change = Add text; id = additions past + 1 } in
    same_view (with_addition (live_view past) text) (live_view (past ++ c ∷ []))
    (sym (live-addition past text (additions past + 1)))
    (sym (length-append past (c ∷ [])))
    (sym (sum_by_push (λ (x : Numbered). added_bytes x.change) past c))
    (sym (sum_by_push (λ (x : Numbered). added_count x.change) past c))

pub view-removal : (past : List Numbered) (id : ℕ)
    → with_removal (live_view past) id ≡ live_view (past ++ record { change = Remove; id = id } ∷ [])
view-removal past id =
    let c : Numbered = record { change = Remove; id = id } in
    let logged = sum_by_push (λ (x : Numbered). added_bytes x.change) past c in
    let added = sum_by_push (λ (x : Numbered). added_count x.change) past c in
    same_view (with_removal (live_view past) id) (live_view (past ++ c ∷ []))
    (sym (live-removal past id))
    (sym (length-append past (c ∷ [])))
    (omega arith)
    (omega arith)
