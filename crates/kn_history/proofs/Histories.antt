-- One more change of a history, and one more update.
use Rattle.std.proofs.Common.{◌≡◌, ℕ, ◌+◌, ◌≤◌, Bool, true, false, not, cond, ◌||◌, ◌==◌, List, [], ◌∷◌, ◌++◌, length}
use Rattle.std.proofs.Common.{filter, None}
use Rattle.std.proofs.Common.{refl, sym, ap, ◌∙◌, subst, append_assoc, append-nil, eq-eqb}
use Rattle.std.specs.Prelude.{IsSome}
use Rattle.std.specs.List.{list_any}
use Rattle.std.proofs.Math.Bool.{or-false}
use Rattle.std.proofs.lemmas.Bool.{and_parts, and_from, leb-true}
use Rattle.std.proofs.lemmas.List.Folds.{list_any-append}
use Rattle.std.proofs.lemmas.List.Elements.{filter-append}
use Rattle.std.proofs.lemmas.List.Concat.{flat_map-append}
use Rattle.kn_assert.specs.Reading.{assertion_of}
use Rattle.kn_history.specs.declared.update.Change.{Change}
use Rattle.kn_history.specs.declared.update.Change.TheVariants.{Add, Remove}
use Rattle.kn_history.specs.declared.update.Update.{Update}
use Rattle.kn_history.specs.declared.update.Numbered.{Numbered}
use Rattle.kn_history.specs.History.{NumberedText, all_changes, additions, is_removal_of, kept_credential, live}
use Rattle.kn_history.specs.History.{refusal_of_text}
use Rattle.kn_history.specs.History.{refusal_of_id}
use Rattle.kn_history.specs.History.{update_may_follow, updates_may_follow, is_valid_history, addition_by, removal_by}

addition : List ℕ → ℕ → Numbered
addition text id = record { change = Add text; id = id }

removal : ℕ → Numbered
removal id = record { change = Remove; id = id }

-- An addition removes nothing.

kept-addition : (change : Change) (at : ℕ) (later : List Numbered) (text : List ℕ) (id : ℕ)
    → kept_credential change at (later ++ addition text id ∷ []) ≡ kept_credential change at later
unfolding addition
kept-addition (Add own) at later text id =
    ap (λ t. cond t [] (record { id = at; text = own } ∷ []))
    (list_any-append (λ c. is_removal_of at c.change c.id) later (addition text id ∷ [])
    ∙ or-false (list_any (λ c. is_removal_of at c.change c.id) later))
kept-addition Remove at later text id = refl

pub live-addition : (past : List Numbered) (text : List ℕ) (id : ℕ)
    → live (past ++ record { change = Add text; id = id } ∷ []) ≡ live past ++ record { id = id; text = text } ∷ []
unfolding addition
live-addition [] text id = refl
live-addition (c ∷ past) text id =
    ap (λ first. first ++ live (past ++ addition text id ∷ [])) (kept-addition c.change c.id past text id)
    ∙ ap (λ rest. kept_credential c.change c.id past ++ rest) (live-addition past text id)
    ∙ sym (append_assoc (kept_credential c.change c.id past) (live past) (record { id = id; text = text } ∷ []))

-- A removal takes the credential of its id away.

stays : ℕ → NumberedText → Bool
stays id c = not (c.id == id)

kept-removal : (change : Change) (at : ℕ) (later : List Numbered) (id : ℕ)
    → kept_credential change at (later ++ removal id ∷ []) ≡ filter (stays id) (kept_credential change at later)
unfolding removal stays
kept-removal (Add own) at later id =
    ap (λ t. cond t [] (record { id = at; text = own } ∷ []))
    (list_any-append (λ c. is_removal_of at c.change c.id) later (removal id ∷ []))
    ∙ by (list_any (λ c. is_removal_of at c.change c.id) later)
  where
    own_text : List NumberedText
    own_text = record { id = at; text = own } ∷ []

    last : (here : Bool) → cond (here || false) [] own_text ≡ cond (not here) own_text []
    last true = refl
    last false = refl

    by : (gone : Bool) → cond (gone || ((at == id) || false)) [] own_text ≡ filter (stays id) (cond gone [] own_text)
    by true = refl
    by false = last (at == id)
kept-removal Remove at later id = refl

pub live-removal : (past : List Numbered) (id : ℕ)
    → live (past ++ record { change = Remove; id = id } ∷ []) ≡ filter (λ c. not (c.id == id)) (live past)
unfolding removal stays
live-removal [] id = refl
live-removal (c ∷ past) id =
    ap (λ first. first ++ live (past ++ removal id ∷ [])) (kept-removal c.change c.id past id)
    ∙ ap (λ rest. filter (stays id) (kept_credential c.change c.id past) ++ rest) (live-removal past id)
    ∙ sym (filter-append (stays id) (kept_credential c.change c.id past) (live past))

-- Valid histories.

pub updates-push : (past : List Numbered) (history : List Update) (u : Update) → updates_may_follow past history ≡ true
    → update_may_follow (past ++ all_changes history) u ≡ true → updates_may_follow past (history ++ u ∷ []) ≡ true
updates-push past [] u h last =
    and_from (update_may_follow past u) true (subst (λ front. update_may_follow front u ≡ true) (append-nil past) last)
    refl
updates-push past (first ∷ history) u h last =
    let parts = and_parts (update_may_follow past first) (updates_may_follow (past ++ first.changes) history) h in
    and_from (update_may_follow past first) (updates_may_follow (past ++ first.changes) (history ++ u ∷ [])) parts.0
    (updates-push (past ++ first.changes) history u parts.1
    (subst (λ front. update_may_follow front u ≡ true) (sym (append_assoc past first.changes (all_changes history)))
    last))

updates-before : (past : List Numbered) (history more : List Update) → updates_may_follow past (history ++ more) ≡ true
    → updates_may_follow past history ≡ true
updates-before past [] more h = refl
updates-before past (first ∷ history) more h =
    let parts = and_parts (update_may_follow past first) (updates_may_follow (past ++ first.changes) (history ++ more))
    h in
    and_from (update_may_follow past first) (updates_may_follow (past ++ first.changes) history) parts.0
    (updates-before (past ++ first.changes) history more parts.1)

pub valid-grows : (history : List Update) (update : Update) → is_valid_history history ≡ true
    → update_may_follow (all_changes history) update ≡ true → is_valid_history (history ++ update ∷ []) ≡ true
valid-grows history update valid follows = updates-push [] history update valid follows

pub valid-before : (history more : List Update) → is_valid_history (history ++ more) ≡ true
    → is_valid_history history ≡ true
valid-before history more valid = updates-before [] history more valid

-- An update of one change, and one of any.

pub addition-follows : (past : List Numbered) (caller : ℕ) (text : List ℕ) → refusal_of_text past text ≡ None
    → IsSome (assertion_of text)
    → update_may_follow past (addition_by caller text (additions past + 1)) ≡ true
addition-follows past caller text accepted reads =
    rw (accepted, eq-eqb (additions past + 1) (additions past + 1) refl, reads) refl

pub removal-follows : (past : List Numbered) (caller id : ℕ) → refusal_of_id past id ≡ None
    → update_may_follow past (removal_by caller id) ≡ true
removal-follows past caller id accepted = rw accepted refl

pub has_changes : (past : List Numbered) (u : Update) → update_may_follow past u ≡ true → 1 ≤ length u.changes
has_changes past u follows = leb-true 1 (length u.changes) (and_parts _ _ (and_parts _ _ follows).0).0

pub changes-push : (made : List Update) (u : Update) → all_changes (made ++ u ∷ []) ≡ all_changes made ++ u.changes
changes-push made u =
    flat_map-append (λ (x : Update). x.changes) made (u ∷ [])
    ∙ ap (λ (l : List Numbered). all_changes made ++ l) (append-nil u.changes)
