-- The readings of texts, as they are taken in and then added.
use Rattle.std.proofs.Common.{◌≡◌, ℕ, ◌+◌, ◌<◌, List, [], ◌∷◌, ◌++◌, length, length-append, refl, sym, ap, subst, ◌∙◌}
use Rattle.std.proofs.Common.{arith, append_assoc, append-nil, Option, Some, None}
use Rattle.std.specs.Prelude.{MatchOption}
use Rattle.std.specs.List.{AllZip}
use Rattle.atomic_table.specs.Seated.{TableId}
use Rattle.kn_fields.specs.declared.fault.ReadFault.{ReadFault}
use Rattle.kn_fields.specs.Numbers.{fault_number}
use Rattle.kn_history.specs.declared.fault.StoreFault.{StoreFault}
use Rattle.kn_history.specs.Loading.{IsLoadable}
use Rattle.kn_registry.specs.Passes.{PassSeen, IsSoundPass, RefusesOne}
use Rattle.kn_load.specs.declared.read_results.ReadResult.{ReadResult}
use Rattle.kn_load.specs.declared.read_texts.ReadTexts.{ReadTexts}
use Rattle.kn_load.specs.declared.fault.LoadFault.{LoadFault}
use Rattle.kn_load.specs.declared.fault.LoadFault.TheVariants as L
use Rattle.kn_load.specs.Readings.{IsReadResultOf, IsFirstFaulty, AreReadings}
use Rattle.kn_load.specs.Loaded.{IsLoaded, StopsLoading, refused_at}
use Rattle.kn_load.proofs.Loaded.{refusal_stops, fault_stops}

-- These results are left of those of some texts, and of the texts before them these are the readings.
pub record AreLeft (texts : List (List ℕ)) (readings : ReadTexts) (results : List ReadResult) : Type 0 where
  pub front : List (List ℕ)
  pub left : List (List ℕ)
  pub cut : texts ≡ front ++ left
  pub are : AreReadings front readings
  pub results_are : AllZip IsReadResultOf left results

pub all_left : (texts : List (List ℕ)) (readings : ReadTexts) (results : List ReadResult) → AreReadings [] readings
    → AllZip IsReadResultOf texts results → AreLeft texts readings results
all_left texts readings results none all =
    record { front = []; left = texts; cut = refl; are = none; results_are = all }

pub none_left : (texts : List (List ℕ)) (readings : ReadTexts) → AreLeft texts readings [] → AreReadings texts readings
none_left texts readings so_far = by so_far.left so_far.cut so_far.results_are
  where
    by : (left : List (List ℕ)) → texts ≡ so_far.front ++ left → AllZip IsReadResultOf left []
        → AreReadings texts readings
    by [] cut none = subst (λ (l : List (List ℕ)). AreReadings l readings) (sym (cut ∙ append-nil so_far.front))
        so_far.are
    by (text ∷ left) cut none = absurd none

-- the first of the results that are left is that of this text
pub record IsNext (texts : List (List ℕ)) (readings : ReadTexts) (found : ReadResult) (results : List ReadResult) :
    Type 0 where
  pub front : List (List ℕ)
  pub text : List ℕ
  pub are : AreReadings front readings
  pub of_text : IsReadResultOf text found
  pub more : (longer : ReadTexts) → AreReadings (front ++ text ∷ []) longer → AreLeft texts longer results

pub next_left : (texts : List (List ℕ)) (readings : ReadTexts) (found : ReadResult) (results : List ReadResult)
    → AreLeft texts readings (found ∷ results) → IsNext texts readings found results
next_left texts readings found results so_far = by so_far.left so_far.cut so_far.results_are
  where
    by : (left : List (List ℕ)) → texts ≡ so_far.front ++ left → AllZip IsReadResultOf left (found ∷ results)
        → IsNext texts readings found results
    by [] cut none = absurd none
    by (text ∷ left) cut all = record {
      front = so_far.front;
      text = text;
      are = so_far.are;
      of_text = all.0;
      more = λ longer are. record {
        front = so_far.front ++ text ∷ [];
        left = left;
        cut = cut
            ∙ sym (append_assoc so_far.front (text ∷ []) left);
        are = are;
        results_are = all.1;
      };
    }

module _ (texts : List (List ℕ)) (readings : ReadTexts) (are : AreReadings texts readings) where
  -- where none has a fault, all are read
  pub all_read : readings.fault ≡ None → readings.ready_texts.items ≡ texts
  all_read none =
      let ends : are.rest ≡ [] =
      subst (λ (o : Option ReadFault). MatchOption o (are.rest ≡ []) (λ fault. IsFirstFaulty are.rest fault)) none
      are.ends in
      sym (are.cut ∙ ap (λ (l : List (List ℕ)). readings.ready_texts.items ++ l) ends
      ∙ append-nil readings.ready_texts.items)

  pub read_within : length readings.ready_texts.items + length are.rest ≡ length texts
  read_within = sym (ap length are.cut ∙ length-append readings.ready_texts.items are.rest)

  -- where one has, it is behind them
  pub fault_within : (fault : ReadFault) → readings.fault ≡ Some fault
      → length readings.ready_texts.items < length texts
  fault_within fault some = by are.rest refl
    where
      by : (rest : List (List ℕ)) → are.rest ≡ rest → length readings.ready_texts.items < length texts
      by [] is = absurd
          (subst (λ (l : List (List ℕ)). IsFirstFaulty l fault) is
          (subst (λ (o : Option ReadFault). MatchOption o (are.rest ≡ []) (λ why. IsFirstFaulty are.rest why)) some
          are.ends))
      by (text ∷ rest) is = let all = read_within in let many = ap length is in omega (arith, all, many)

  module _ (front rest : List (List ℕ)) where
    cut_there : front ++ texts ++ rest ≡ front ++ readings.ready_texts.items ++ (are.rest ++ rest)
    cut_there = ap (λ (l : List (List ℕ)). front ++ l ++ rest) are.cut
        ∙ regrouped front readings.ready_texts.items are.rest rest
      where
        regrouped : (a b c d : List (List ℕ)) → a ++ (b ++ c) ++ d ≡ a ++ b ++ (c ++ d)
        regrouped a b c d = simp append_assoc

    -- what a text among them is refused for stops loading
    pub refused_there : (registry : TableId) (v w : PassSeen) → IsLoaded front registry v → IsSoundPass w
        → (before place : ℕ) (refusal : StoreFault) → before ≡ length front →
        RefusesOne v w readings.ready_texts.items place refusal
        → StopsLoading (front ++ texts ++ rest) (refused_at (before + place + 1) refusal)
    refused_there registry v w l sound before place refusal at refused =
        subst (λ (k : ℕ). StopsLoading (front ++ texts ++ rest) (refused_at (k + place + 1) refusal)) (sym at)
        (subst (λ (all : List (List ℕ)). StopsLoading all (refused_at (length front + place + 1) refusal))
        (sym cut_there)
        (refusal_stops front readings.ready_texts.items registry v w l sound (are.rest ++ rest) place are.reads refusal
        refused))

    -- and so does the fault of the text behind them, once they are loaded
    pub faulty_there : IsLoadable (front ++ readings.ready_texts.items)
        → (before : ℕ) (fault : ReadFault) (stop : LoadFault) → before ≡ length front → readings.fault ≡ Some fault →
        MatchOption (fault_number fault) (stop ≡ L.NoMemory)
        (λ _. stop ≡ L.Faulty (before + length readings.ready_texts.items + 1) fault)
        → StopsLoading (front ++ texts ++ rest) stop
    faulty_there loadable before fault stop at some is =
        subst (λ (all : List (List ℕ)). StopsLoading all stop) (sym cut_there)
        (by are.rest (subst
        (λ (o : Option ReadFault). MatchOption o (are.rest ≡ []) (λ why. IsFirstFaulty are.rest why)) some
        are.ends))
      where
        by : (behind : List (List ℕ)) → IsFirstFaulty behind fault
            → StopsLoading (front ++ readings.ready_texts.items ++ (behind ++ rest)) stop
        by [] none = absurd none
        by (text ∷ behind) faulty =
            let both = length-append front readings.ready_texts.items in
            let place : before + length readings.ready_texts.items + 1 ≡ length (front ++ readings.ready_texts.items)
            + 1 =
            omega (arith, both, at) in
            fault_stops (front ++ readings.ready_texts.items) (behind ++ rest) text
            (before + length readings.ready_texts.items
            + 1) fault stop loadable place faulty is
