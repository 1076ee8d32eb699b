-- Loading texts one after the other.
use Rattle.std.proofs.Common.{◌≡◌, ℕ, ◌+◌, ◌⊎◌, inl, inr, ⊎_elim, List, [], ◌∷◌, ◌++◌, length, refl, sym, ap, ◌∙◌}
use Rattle.std.proofs.Common.{subst, arith, append_assoc, append-nil, length-append, Option, Some, None}
use Rattle.std.specs.Prelude.{Result, Ok, Err, IsSome}
use Rattle.std.specs.Result.{result_err, result_ok}
use Rattle.kn_trees.specs.declared.assertion.Assertion.{Assertion}
use Rattle.kn_fields.specs.declared.fault.ReadFault.{ReadFault}
use Rattle.kn_assert.specs.Reading.{reading_of, assertion_of, fault_of}
use Rattle.kn_history.specs.declared.fault.StoreFault.{StoreFault}
use Rattle.kn_history.specs.Loading.{refusal_behind, IsAddedBehind, IsLoadable, IsNextText, IsFaultyAt, IsFullAt}
use Rattle.kn_history.specs.Laws.{LoadingEndsOnce}

-- where two places cut one list: they are the same, or the first is the earlier one, or the second is
Meet : List (List ℕ) → List (List ℕ) → List ℕ → List ℕ → Type 0
Meet f g t u = ((f ≡ g) × (t ≡ u))
    ⊎ (((between : List (List ℕ)) × (g ≡ f ++ t ∷ between)) ⊎ ((between : List (List ℕ)) × (f ≡ g ++ u ∷ between)))

meet : (f g : List (List ℕ)) (t u : List ℕ) (r s : List (List ℕ)) → f ++ t ∷ r ≡ g ++ u ∷ s → Meet f g t u
unfolding Meet
meet [] [] t u r s e = inl (refl, cc)
meet [] (y ∷ g) t u r s e = inr (inl (g, cc))
meet (x ∷ f) [] t u r s e = inr (inr (f, cc))
meet (x ∷ f) (y ∷ g) t u r s e =
    let same : x ≡ y = cc in
    let rest : f ++ t ∷ r ≡ g ++ u ∷ s = cc in
    ⊎_elim
    (λ (h : (f ≡ g) × (t ≡ u)). inl (ap (λ (l : List (List ℕ)). x ∷ l) h.0 ∙ ap (λ (z : List ℕ). z ∷ g) same, h.1))
    (λ (h : ((between : List (List ℕ)) × (g ≡ f ++ t ∷ between))
    ⊎ ((between : List (List ℕ)) × (f ≡ g ++ u ∷ between))).
    ⊎_elim
    (λ (k : (between : List (List ℕ)) × (g ≡ f ++ t ∷ between)).
    inr (inl (k.0, ap (λ (l : List (List ℕ)). y ∷ l) k.1 ∙ ap (λ (z : List ℕ). z ∷ (f ++ t ∷ k.0)) (sym same))))
    (λ (k : (between : List (List ℕ)) × (f ≡ g ++ u ∷ between)).
    inr (inr (k.0, ap (λ (l : List (List ℕ)). x ∷ l) k.1 ∙ ap (λ (z : List ℕ). z ∷ (g ++ u ∷ k.0)) same)))
    h)
    (meet f g t u r s rest)

-- nothing is loaded yet
pub loadable_nothing : IsLoadable []
loadable_nothing = record { each = λ front text rest e. absurd (no_cut front text rest e) }
  where
    no_cut : (front : List (List ℕ)) (text : List ℕ) (rest : List (List ℕ)) → [] ≡ front ++ text ∷ rest → ⊥
    no_cut [] text rest e = cc
    no_cut (x ∷ front) text rest e = cc

too_long : (front between rest : List (List ℕ)) (t u : List ℕ) → (front ++ t ∷ between) ++ u ∷ rest ≡ front ++ t ∷ []
    → ⊥
too_long front between rest t u e =
    let sizes : length ((front ++ t ∷ between) ++ u ∷ rest) ≡ length (front ++ t ∷ []) = ap length e in
    let outer = length-append (front ++ t ∷ between) (u ∷ rest) in
    let inner = length-append front (t ∷ between) in
    let last = length-append front (t ∷ []) in
    omega arith

-- one text more
pub loadable_more : (front : List (List ℕ)) (text : List ℕ) → IsLoadable front → IsAddedBehind front text
    → IsLoadable (front ++ text ∷ [])
unfolding Meet
loadable_more front text loadable added =
    record {
      each = λ f t rest e.
          ⊎_elim
          (λ (h : (f ≡ front) × (t ≡ text)). subst (λ (l : List (List ℕ)). IsAddedBehind l t) (sym h.0)
          (subst (IsAddedBehind front) (sym h.1) added))
          (λ (h : ((between : List (List ℕ)) × (front ≡ f ++ t ∷ between))
          ⊎ ((between : List (List ℕ)) × (f ≡ front ++ text ∷ between))).
          ⊎_elim
          (λ (k : (between : List (List ℕ)) × (front ≡ f ++ t ∷ between)). loadable.each f t k.0 k.1)
          (λ (k : (between : List (List ℕ)) × (f ≡ front ++ text ∷ between)).
          absurd (too_long front k.0 rest text t (ap (λ (l : List (List ℕ)). l ++ t ∷ rest) (sym k.1) ∙ sym e)))
          h)
          (meet f front t text rest [] (sym e));
    }

reads_or_faults : (r : Result Assertion ReadFault) → IsSome (result_ok r)
    ⊎ ((fault : ReadFault) × (result_err r ≡ Some fault))
reads_or_faults (Ok assertion) = inl refl
reads_or_faults (Err fault) = inr (fault, refl)

no_fault : (r : Result Assertion ReadFault) (fault : ReadFault) → result_err r ≡ Some fault → IsSome (result_ok r) → ⊥
no_fault (Ok assertion) fault told reads = cc
no_fault (Err other) fault told reads = cc

none_or_some : {X : Type 0} (o : Option X) → (o ≡ None) ⊎ ((x : X) × (o ≡ Some x))
none_or_some None = inl refl
none_or_some (Some x) = inr (x, refl)

Ends : List (List ℕ) → Type 0
Ends texts = IsLoadable texts
    ⊎ (((n : ℕ) × (fault : ReadFault) × IsFaultyAt texts n fault)
    ⊎ ((n : ℕ) × (refusal : StoreFault) × IsFullAt texts n refusal))

ends_behind : (texts front rest : List (List ℕ)) → texts ≡ front ++ rest → IsLoadable front → Ends texts
unfolding Ends
ends_behind texts front [] cut loadable = inl (subst IsLoadable (sym (cut ∙ append-nil front)) loadable)
ends_behind texts front (text ∷ rest) cut loadable =
    let reached : IsNextText texts (length front + 1) front text =
    record { rest = rest; cut = cut; place = refl; loadable = loadable } in
    ⊎_elim
    (λ (reads : IsSome (assertion_of text)).
    ⊎_elim
    (λ (accepted : refusal_behind front text ≡ None).
    ends_behind texts (front ++ text ∷ []) rest (cut ∙ sym (append_assoc front (text ∷ []) rest))
    (loadable_more front text loadable (record { reads = reads; accepted = accepted })))
    (λ (full : (refusal : StoreFault) × (refusal_behind front text ≡ Some refusal)).
    inr (inr (
      length front + 1,
      full.0,
      record { front = front; text = text; reached = reached; reads = reads; refused = full.1 },
    )))
    (none_or_some (refusal_behind front text)))
    (λ (faulty : (fault : ReadFault) × (fault_of text ≡ Some fault)).
    inr (inl (
      length front + 1,
      faulty.0,
      record { front = front; text = text; reached = reached; fault_there = faulty.1 },
    )))
    (reads_or_faults (reading_of text))

pub loading_ends : (texts : List (List ℕ)) → IsLoadable texts
    ⊎ (((n : ℕ) × (fault : ReadFault) × IsFaultyAt texts n fault)
    ⊎ ((n : ℕ) × (refusal : StoreFault) × IsFullAt texts n refusal))
unfolding Ends
loading_ends texts = ends_behind texts [] texts refl loadable_nothing

-- two first texts that aren't added are one
one_place : (texts : List (List ℕ)) (n m : ℕ) (f g : List (List ℕ)) (t u : List ℕ) → IsNextText texts n f t
    → IsNextText texts m g u →
    (IsAddedBehind f t → ⊥) → (IsAddedBehind g u → ⊥) → (n ≡ m) × (f ≡ g) × (t ≡ u)
unfolding Meet
one_place texts n m f g t u first second not_first not_second =
    ⊎_elim
    (λ (h : (f ≡ g) × (t ≡ u)). (
      first.place ∙ ap (λ (l : List (List ℕ)). length l + 1) h.0
          ∙ sym second.place,
      h.0,
      h.1,
    ))
    (λ (h : ((between : List (List ℕ)) × (g ≡ f ++ t ∷ between))
    ⊎ ((between : List (List ℕ)) × (f ≡ g ++ u ∷ between))).
    ⊎_elim
    (λ (k : (between : List (List ℕ)) × (g ≡ f ++ t ∷ between)). absurd (not_first (second.loadable.each f t k.0 k.1)))
    (λ (k : (between : List (List ℕ)) × (f ≡ g ++ u ∷ between)). absurd (not_second (first.loadable.each g u k.0 k.1)))
    h)
    (meet f g t u first.rest second.rest (sym first.cut ∙ second.cut))

not_added-fault : (front : List (List ℕ)) (text : List ℕ) (fault : ReadFault) → fault_of text ≡ Some fault
    → IsAddedBehind front text → ⊥
not_added-fault front text fault told added = no_fault (reading_of text) fault told added.reads

not_added-refusal : (front : List (List ℕ)) (text : List ℕ) (refusal : StoreFault)
    → refusal_behind front text ≡ Some refusal → IsAddedBehind front text → ⊥
not_added-refusal front text refusal told added = let both : Some refusal ≡ None = sym told ∙ added.accepted in cc

pub ends_once : (texts : List (List ℕ)) → LoadingEndsOnce texts
ends_once texts =
    record {
      faulty = λ n fault loadable h. not_added-fault h.front h.text fault h.fault_there
          (loadable.each h.front h.text h.reached.rest h.reached.cut);
      full = λ n refusal loadable h. not_added-refusal h.front h.text refusal h.refused
          (loadable.each h.front h.text h.reached.rest h.reached.cut);
      either = λ n m fault refusal h k.
          let one = one_place texts n m h.front k.front h.text k.text h.reached k.reached
          (not_added-fault h.front h.text fault h.fault_there)
          (not_added-refusal k.front k.text refusal k.refused) in
          no_fault (reading_of h.text) fault h.fault_there
          (subst (λ (t : List ℕ). IsSome (assertion_of t)) (sym one.2) k.reads);
      one_fault = λ n m fault other h k.
          let one = one_place texts n m h.front k.front h.text k.text h.reached k.reached
          (not_added-fault h.front h.text fault h.fault_there)
          (not_added-fault k.front k.text other k.fault_there) in
          let same : Some fault ≡ Some other = sym h.fault_there ∙ ap fault_of one.2 ∙ k.fault_there in
          (one.0, cc);
      one_refusal = λ n m refusal other h k.
          let one = one_place texts n m h.front k.front h.text k.text h.reached k.reached
          (not_added-refusal h.front h.text refusal h.refused) (not_added-refusal k.front k.text other k.refused) in
          let same : Some refusal ≡ Some other = sym h.refused
          ∙ ap (λ (l : List (List ℕ)). refusal_behind l h.text) one.1 ∙ ap (refusal_behind k.front) one.2
          ∙ k.refused in
          (one.0, cc);
    }
