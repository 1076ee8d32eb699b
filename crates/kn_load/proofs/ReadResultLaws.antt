-- What was read of the texts of a batch.
use Rattle.std.proofs.Common.{ℕ, ◌≡◌, ◌+◌, ◌-◌, ◌<◌, ◌≤◌, List, [], ◌∷◌, ◌++◌, length, map, take, drop, zero, suc, ap}
use Rattle.std.proofs.Common.{refl, sym, ◌∙◌, arith}
use Rattle.std.specs.Prelude.{slice_index_or}
use Rattle.std.specs.List.{AllZip}
use Rattle.std.proofs.lemmas.List.{take-map, drop-map, drop-take, take-append-drop, length-take-le, length-map}
use Rattle.kn_base.specs.declared.span.Span.{Span}
use Rattle.kn_files.specs.Pieces.{spans_of, bytes_at, pieces_of}
use Rattle.kn_load.specs.declared.read_results.ReadResult.{ReadResult}
use Rattle.kn_load.specs.declared.read_texts.ReadTexts.{ReadTexts}
use Rattle.kn_load.specs.Readings.{IsReadResultOf, AreReadings}

-- results at the places of some spans are the results of the texts there
pub results_of_spans : (text_at : Span → List ℕ) (spans : List Span) (results : List ReadResult)
    → length results ≡ length spans
    → ((i : ℕ) (s : Span) (d : ReadResult) → i < length spans
    → IsReadResultOf (text_at (slice_index_or spans i s)) (slice_index_or results i d))
    → AllZip IsReadResultOf (map text_at spans) results
results_of_spans text_at [] [] long each = tt
results_of_spans text_at [] (d ∷ results) long each = absurd (omega (arith, long))
results_of_spans text_at (s ∷ spans) [] long each = absurd (omega (arith, long))
results_of_spans text_at (s ∷ spans) (d ∷ results) long each =
    let rest : length results ≡ length spans = omega (arith, long) in (
      each 0 s d (omega arith),
      results_of_spans text_at spans results rest (λ i s d lt. each (suc i) s d (omega (arith, lt))),
    )

-- these are the readings of the texts from place n up to another, which stand between those in front of them and those
-- behind
pub record IsBatch (all : List (List ℕ)) (n to : ℕ) (readings : ReadTexts) : Type 0 where
  pub texts : List (List ℕ)
  pub are : AreReadings texts readings
  pub upto : take n all ++ texts ≡ take to all
  pub place : n ≡ length (take n all)
  pub whole : take n all ++ texts ++ drop to all ≡ all

from_place : (texts : List (List ℕ)) (n to : ℕ) → n ≤ to → take n texts ++ drop n (take to texts) ≡ take to texts
from_place texts zero to order = refl
from_place texts (suc n) zero order = absurd (omega (arith, order))
from_place [] (suc n) (suc to) order = refl
from_place (text ∷ texts) (suc n) (suc to) order =
    ap (λ (l : List (List ℕ)). text ∷ l) (from_place texts n to (omega (arith, order)))

pub batch_is : (file : List ℕ) (spans given : List Span) (n to : ℕ) (readings : ReadTexts) → spans ≡ given
    → given ≡ spans_of file → n < to → to ≤ length given
    → AreReadings (map (bytes_at file) (take (to - n) (drop n spans))) readings → IsBatch (pieces_of file) n to readings
batch_is file spans given n to readings same is some end are =
    let f = bytes_at file in
    let batch = map f (take (to - n) (drop n spans)) in
    let pieces = pieces_of file in
    let whole : n + (to - n) ≡ to = omega arith in
    let all : map f spans ≡ pieces = ap (map f) (same ∙ is) in
    let between : batch ≡ drop n (take to pieces) =
    sym (take-map f (to - n) (drop n spans)) ∙ ap (take (to - n)) (sym (drop-map f n spans))
    ∙ sym (drop-take n (to - n) (map f spans))
    ∙ ap (λ (k : ℕ). drop n (take k (map f spans))) whole ∙ ap (λ (l : List (List ℕ)). drop n (take to l)) all in
    let size : length pieces ≡ length given = ap length (sym all) ∙ length-map spans f ∙ ap length same in
    let upto : take n pieces ++ batch ≡ take to pieces = ap (λ (l : List (List ℕ)). take n pieces ++ l) between
    ∙ from_place pieces n to (omega arith) in
    record {
      texts = batch;
      are = are;
      upto = upto;
      place = sym (length-take-le n pieces (omega arith));
      whole = ap (λ (l : List (List ℕ)). l ++ drop to pieces) upto ∙ take-append-drop to pieces;
    }
