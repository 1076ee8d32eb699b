-- What is taken out of a session: a private assertion by its id, a requester by the principal that a text names.
use Rattle.std.proofs.Common.{◌≡◌, ℕ, ◌<◌, Bool, true, false, not, cond, ◌==◌, List, [], ◌∷◌, length, map, filter}
use Rattle.std.proofs.Common.{position, Some, None, refl, sym, ap, ◌∙◌, subst, nat_eq}
use Rattle.std.specs.List.{list_any, remove, IsDistinct}
use Rattle.std.specs.Str.{bytes_eq}
use Rattle.kn_principal.specs.Principals.{normal_form}
use Rattle.kn_history.specs.History.{NumberedText}
use Rattle.kn_session.specs.declared.fault.SessionFault.TheVariants as F
use Rattle.kn_session.specs.declared.view.Private.{Private}
use Rattle.kn_session.specs.Sessions.{Session, fault_if}
use Rattle.kn_session.specs.Calls.{retract_fault, is_named, take_private, take_requester}
use Rattle.kn_session.specs.Views.{numbered_text, ids_of, IsKept, AreNormalForms}
use Rattle.kn_session.specs.OnePlace.{IsOneAt}
use Rattle.kn_session.proofs.OnePlace.{one_at, one_number, none_passes, some_passes}
use Rattle.kn_session.proofs.Requesters.{one_name}

ids_of-texts : (ps : List Private) → ids_of (map numbered_text ps) ≡ map (λ (p : Private). p.id) ps
ids_of-texts [] = refl
ids_of-texts (p ∷ ps) = ap (λ (ks : List ℕ). p.id ∷ ks) (ids_of-texts ps)

any-texts : (k : ℕ) (ps : List Private) → list_any (λ (c : NumberedText). c.id == k) (map numbered_text ps)
    ≡ list_any (λ (p : Private). p.id == k) ps
any-texts k [] = refl
any-texts k (p ∷ ps) = rw (any-texts k ps) refl

filter-texts : (k : ℕ) (ps : List Private) → filter (λ (c : NumberedText). not (c.id == k)) (map numbered_text ps)
    ≡ map numbered_text (filter (λ (p : Private). not (p.id == k)) ps)
filter-texts k [] = refl
filter-texts k (p ∷ ps) = by (p.id == k) (filter-texts k ps)
  where
    by : (b : Bool) → filter (λ (c : NumberedText). not (c.id == k)) (map numbered_text ps)
        ≡ map numbered_text (filter (λ (p : Private). not (p.id == k)) ps)
        → cond (not b) (numbered_text p ∷ filter (λ (c : NumberedText). not (c.id == k)) (map numbered_text ps))
        (filter (λ (c : NumberedText). not (c.id == k)) (map numbered_text ps))
        ≡ map numbered_text
        (cond (not b) (p ∷ filter (λ (p : Private). not (p.id == k)) ps)
        (filter (λ (p : Private). not (p.id == k)) ps))
    by true rest = rest
    by false rest = ap (λ (ts : List NumberedText). numbered_text p ∷ ts) rest

-- the private assertion at this place has the id, and no other one
pub record IsTaken (k : ℕ) (ps : List Private) (i : ℕ) (x : Session) : Type 0 where
  pub within : i < length ps
  pub accepted : retract_fault k x ≡ None
  pub taken : (qs : List Private) → qs ≡ remove ps i → record x { privates = map numbered_text qs } ≡ take_private k x

pub taken_at : (k : ℕ) (ps : List Private) (i n : ℕ) (x : Session) → IsKept ps n x → x.privates ≡ map numbered_text ps
    → position (λ (p : Private). p.id == k) ps ≡ Some i → IsTaken k ps i x
taken_at k ps i n x kept same there =
    let ids : ids_of x.privates ≡ map (λ (p : Private). p.id) ps = ap ids_of same ∙ ids_of-texts ps in
    let different : IsDistinct nat_eq (map (λ (p : Private). p.id) ps) =
    subst (IsDistinct nat_eq) ids kept.session.privates.different in
    let one : IsOneAt (λ (p : Private). p.id == k) ps i =
    one_at (λ (p : Private). p.id == k) ps i (one_number (λ (p : Private). p.id) k ps different) there in
    let some : list_any (λ (c : NumberedText). c.id == k) x.privates ≡ true =
    ap (list_any (λ (c : NumberedText). c.id == k)) same ∙ any-texts k ps
    ∙ some_passes (λ (p : Private). p.id == k) ps i there in
    let left : filter (λ (c : NumberedText). not (c.id == k)) x.privates ≡ map numbered_text (remove ps i) =
    ap (filter (λ (c : NumberedText). not (c.id == k))) same ∙ filter-texts k ps
    ∙ ap (map numbered_text) (sym one.others) in
    record {
      within = one.within;
      accepted = ap (λ (b : Bool). fault_if (not b) (F.NoSuch k) None) some;
      taken = λ qs e. ap (λ (ts : List NumberedText). record x { privates = ts }) (ap (map numbered_text) e ∙ sym left);
    }

pub not_taken : (k : ℕ) (ps : List Private) (x : Session) → x.privates ≡ map numbered_text ps
    → position (λ (p : Private). p.id == k) ps ≡ None → retract_fault k x ≡ Some (F.NoSuch k)
not_taken k ps x same there =
    let none : list_any (λ (c : NumberedText). c.id == k) x.privates ≡ false =
    ap (list_any (λ (c : NumberedText). c.id == k)) same ∙ any-texts k ps
    ∙ none_passes (λ (p : Private). p.id == k) ps there in
    ap (λ (b : Bool). fault_if (not b) (F.NoSuch k) None) none

-- the requester at this place is the principal that the text names, and no other one
pub record IsLeft (text : List ℕ) (i : ℕ) (x : Session) : Type 0 where
  pub within : i < length x.requesters
  pub named : is_named x.requesters text ≡ true
  pub left : record x { requesters = remove x.requesters i } ≡ take_requester text x

pub left_at : (text : List ℕ) (i : ℕ) (x : Session) → AreNormalForms x.requesters
    → position (bytes_eq (normal_form text)) x.requesters ≡ Some i → IsLeft text i x
left_at text i x forms there =
    let one : IsOneAt (bytes_eq (normal_form text)) x.requesters i =
    one_at (bytes_eq (normal_form text)) x.requesters i (one_name (normal_form text) x.requesters forms.different)
    there in
    record {
      within = one.within;
      named = some_passes (bytes_eq (normal_form text)) x.requesters i there;
      left = ap (λ (rs : List (List ℕ)). record x { requesters = rs }) one.others;
    }

pub not_left : (text : List ℕ) (x : Session) → position (bytes_eq (normal_form text)) x.requesters ≡ None
    → is_named x.requesters text ≡ false
not_left text x there = none_passes (bytes_eq (normal_form text)) x.requesters there
