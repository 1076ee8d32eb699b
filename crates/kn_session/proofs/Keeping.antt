-- A session is kept through each of its changes.
use Rattle.std.proofs.Common.{◌≡◌, ℕ, zero, suc, ◌+◌, ◌-◌, ◌≤◌, ◌<◌, Bool, true, false, not, ◌&&◌, List, [], ◌∷◌, ◌++◌}
use Rattle.std.proofs.Common.{length, map, Option, Some, None, refl, sym, ap, ◌∙◌, subst, arith, nat_eq, length-append}
use Rattle.std.specs.Prelude.{nat_le, nat_lt, slice_get, option_map}
use Rattle.std.specs.List.{AllByRecursion, IsDistinct, remove}
use Rattle.std.specs.Str.{bytes_eq}
use Rattle.std.proofs.lemmas.Bool.{leb-false, ltb-false}
use Rattle.std.proofs.lemmas.List.{length-map, map-append}
use Rattle.std.proofs.lemmas.List.Edits.{length-remove}
use Rattle.std.proofs.lemmas.List.Sums.{sum_by-cons, sum_by_push, sum_by-remove}
use Rattle.kn_base.specs.declared.limits.TheConstants.{PRIVATE_ASSERTIONS, PRIVATE_BYTES, REQUESTERS}
use Rattle.kn_principal.specs.Principals.{policy, normal_form}
use Rattle.kn_env.proofs.Requesters.{AllByRecursion-push, AreRequesters-none}
use Rattle.kn_trees.specs.declared.assertion.Assertion.{Assertion}
use Rattle.kn_history.specs.declared.update.Update.{Update}
use Rattle.kn_history.specs.History.{NumberedText, text_bytes}
use Rattle.kn_session.specs.declared.fault.SessionFault.{SessionFault}
use Rattle.kn_session.specs.declared.fault.SessionFault.TheVariants as F
use Rattle.kn_session.specs.declared.view.Private.{Private}
use Rattle.kn_session.specs.Sessions.{Session, fault_if, started_session}
use Rattle.kn_session.specs.Calls.{private_fault, private_bytes, auth_fault, is_principal, is_named, clear_session}
use Rattle.kn_session.specs.Views.{numbered_text, ids_of, IsReadPrivate, ArePrivates, AreNormalForms, IsSession, IsKept}
use Rattle.kn_session.proofs.Closing.{next_is_new, AllByRecursion-remove, AllByRecursion-weaker, IsDistinct-push}
use Rattle.kn_session.proofs.Closing.{IsDistinct-remove, map-remove}
use Rattle.kn_session.proofs.Requesters.{requesters_more, forms_more, requesters_fewer, forms_fewer}

-- a fault that doesn't apply
passed : (b : Bool) (fault : SessionFault) (next : Option SessionFault) → fault_if b fault next ≡ None → b ≡ false
passed true fault next none = cc
passed false fault next none = refl

next_passed : (b : Bool) (fault : SessionFault) (next : Option SessionFault) → fault_if b fault next ≡ None
    → next ≡ None
next_passed true fault next none = cc
next_passed false fault next none = none

-- there is room for a text that is added
pub record HasRoom (text : List ℕ) (x : Session) : Type 0 where
  pub few : length x.privates < PRIVATE_ASSERTIONS
  pub short : text_bytes x.privates + length text ≤ PRIVATE_BYTES

pub room_for_private : (text : List ℕ) (a : Assertion) (x : Session) → private_fault text a x ≡ None → HasRoom text x
room_for_private text a x none =
    let full = fault_if (nat_lt PRIVATE_BYTES (private_bytes x + length text)) (F.PrivateBytes (private_bytes x))
    None in
    let many = fault_if (nat_le PRIVATE_ASSERTIONS (length x.privates)) (F.Privates (length x.privates)) full in
    let second : many ≡ None = next_passed (bytes_eq a.authorizer policy) F.ByPolicy many none in
    let third : full ≡ None =
    next_passed (nat_le PRIVATE_ASSERTIONS (length x.privates)) (F.Privates (length x.privates)) full second in
    record {
      few = leb-false PRIVATE_ASSERTIONS (length x.privates)
          (passed (nat_le PRIVATE_ASSERTIONS (length x.privates)) (F.Privates (length x.privates)) full second);
      short = ltb-false PRIVATE_BYTES (private_bytes x + length text)
          (passed (nat_lt PRIVATE_BYTES (private_bytes x + length text)) (F.PrivateBytes (private_bytes x)) None third);
    }

-- a requester that isn't there may be entered, and there is room for it
pub record MayEnter (text : List ℕ) (x : Session) : Type 0 where
  pub right : is_principal text ≡ true
  pub room : length x.requesters < REQUESTERS

is_so : (b : Bool) → not b ≡ false → b ≡ true
is_so true h = refl
is_so false h = cc

not_full : (b d : Bool) → (not b && d) ≡ false → b ≡ false → d ≡ false
not_full true d h e = cc
not_full false d h e = h

pub may_enter : (text : List ℕ) (x : Session) → auth_fault text x ≡ None → is_named x.requesters text ≡ false
    → MayEnter text x
may_enter text x none absent =
    let many : Bool = not (is_named x.requesters text) && nat_le REQUESTERS (length x.requesters) in
    let next = fault_if many (F.Requesters (length x.requesters)) None in
    let second : next ≡ None = next_passed (not (is_principal text)) F.Principal next none in
    record {
      right = is_so (is_principal text) (passed (not (is_principal text)) F.Principal next none);
      room = leb-false REQUESTERS (length x.requesters)
          (not_full (is_named x.requesters text) (nat_le REQUESTERS (length x.requesters))
          (passed many (F.Requesters (length x.requesters)) None second) absent);
    }

no_privates : ArePrivates []
unfolding IsDistinct
no_privates = record { few = omega arith; short = omega arith; from_one = tt; different = tt }

no_forms : AreNormalForms []
unfolding IsDistinct
no_forms = record { normal = tt; different = tt }

-- a new session is kept with nothing
pub kept_new : (number : ℕ) (past : List Update) → IsKept [] 0 (started_session number past)
kept_new number past = record {
  readings = tt;
  bytes = refl;
  session = record { privates = no_privates; made = tt; requesters = AreRequesters-none; forms = no_forms };
}

pub kept_cleared : (ps : List Private) (n : ℕ) (x : Session) → IsKept ps n x → IsKept ps n (clear_session x)
kept_cleared ps n x kept = record {
  readings = kept.readings;
  bytes = kept.bytes;
  session = record {
    privates = kept.session.privates;
    made = kept.session.made;
    requesters = AreRequesters-none;
    forms = no_forms;
  };
}

-- one more requester
pub kept_entered : (ps : List Private) (n : ℕ) (x : Session) (text : List ℕ) → IsKept ps n x → MayEnter text x
    → is_named x.requesters text ≡ false
    → IsKept ps n (record x { requesters = x.requesters ++ normal_form text ∷ [] })
kept_entered ps n x text kept may absent = record {
  readings = kept.readings;
  bytes = kept.bytes;
  session = record {
    privates = kept.session.privates;
    made = kept.session.made;
    requesters = requesters_more x.requesters text kept.session.requesters may.right may.room;
    forms = forms_more x.requesters text kept.session.forms absent;
  };
}

-- one requester less
pub kept_left : (ps : List Private) (n : ℕ) (x : Session) (i : ℕ) → i < length x.requesters → IsKept ps n x
    → IsKept ps n (record x { requesters = remove x.requesters i })
kept_left ps n x i within kept = record {
  readings = kept.readings;
  bytes = kept.bytes;
  session = record {
    privates = kept.session.privates;
    made = kept.session.made;
    requesters = requesters_fewer x.requesters i within kept.session.requesters;
    forms = forms_fewer x.requesters i kept.session.forms;
  };
}

-- one more private assertion among the texts
privates_more : (x : Session) (t : NumberedText) → IsSession x → t.id ≡ x.made + 1 → HasRoom t.text x
    → IsSession (record x { privates = x.privates ++ t ∷ []; made = x.made + 1 })
privates_more x t right next room =
    let ids : List ℕ = ids_of x.privates in
    let longer : ids_of (x.privates ++ t ∷ []) ≡ ids ++ (x.made + 1) ∷ [] =
    map-append (λ (c : NumberedText). c.id) x.privates (t ∷ []) ∙ ap (λ (k : ℕ). ids ++ k ∷ []) next in
    let count : length (x.privates ++ t ∷ []) ≡ length x.privates + 1 = length-append x.privates (t ∷ []) in
    let sum : text_bytes (x.privates ++ t ∷ []) ≡ text_bytes x.privates + length t.text =
    sum_by_push (λ (c : NumberedText). length c.text) x.privates t in
    let few : length x.privates < PRIVATE_ASSERTIONS = room.few in
    let short : text_bytes x.privates + length t.text ≤ PRIVATE_BYTES = room.short in
    record {
      privates = record {
        few = omega arith;
        short = omega arith;
        from_one = subst (AllByRecursion (λ k. 1 ≤ k)) (sym longer)
            (AllByRecursion-push (λ k. 1 ≤ k) ids (x.made + 1) right.privates.from_one (omega arith));
        different = subst (IsDistinct nat_eq) (sym longer)
            (IsDistinct-push nat_eq ids (x.made + 1)
            (AllByRecursion-weaker (λ k. k ≤ x.made) (λ k. nat_eq k (x.made + 1) ≡ false) (next_is_new x.made) ids
            right.made) right.privates.different);
      };
      made = subst (AllByRecursion (λ k. k ≤ x.made + 1)) (sym longer)
          (AllByRecursion-push (λ k. k ≤ x.made + 1) ids (x.made + 1)
          (AllByRecursion-weaker (λ k. k ≤ x.made) (λ k. k ≤ x.made + 1) (λ k h. omega (arith, h)) ids right.made)
          (omega arith));
      requesters = right.requesters;
      forms = right.forms;
    }

-- one more private assertion
pub kept_added : (ps : List Private) (n : ℕ) (x : Session) (p : Private) → IsKept ps n x
    → x.privates ≡ map numbered_text ps → p.id ≡ x.made + 1 → IsReadPrivate p → HasRoom p.text x
    → IsKept (ps ++ p ∷ []) (n + length p.text)
    (record x { privates = map numbered_text (ps ++ p ∷ []); made = x.made + 1 })
kept_added ps n x p kept same next reading room =
    let t : NumberedText = numbered_text p in
    let texts : x.privates ++ t ∷ [] ≡ map numbered_text (ps ++ p ∷ []) =
    ap (λ (ts : List NumberedText). ts ++ t ∷ []) same ∙ sym (map-append numbered_text ps (p ∷ [])) in
    let sum : text_bytes (x.privates ++ t ∷ []) ≡ text_bytes x.privates + length t.text =
    sum_by_push (λ (c : NumberedText). length c.text) x.privates t in
    let before : n ≡ text_bytes x.privates = kept.bytes in
    subst (λ (ts : List NumberedText). IsKept (ps ++ p ∷ []) (n + length p.text)
    (record x { privates = ts; made = x.made + 1 })) texts
    (record {
      readings = AllByRecursion-push IsReadPrivate ps p kept.readings reading;
      bytes = omega arith;
      session = privates_more x t kept.session next room;
    })

-- one private assertion less among the texts
privates_fewer : (x : Session) (i : ℕ) → i < length x.privates → IsSession x
    → IsSession (record x { privates = remove x.privates i })
privates_fewer x i within right =
    let ids : List ℕ = ids_of x.privates in
    let shorter : ids_of (remove x.privates i) ≡ remove ids i = map-remove (λ (c : NumberedText). c.id) x.privates i in
    let count : length (remove x.privates i) + 1 ≡ length x.privates = length-remove x.privates i within in
    let few : length x.privates ≤ PRIVATE_ASSERTIONS = right.privates.few in
    let short : text_bytes x.privates ≤ PRIVATE_BYTES = right.privates.short in
    record {
      privates = record {
        few = omega arith;
        short = omega (
          arith,
          sum_by-remove (λ (c : NumberedText). length c.text) x.privates i (record { id = 0; text = [] }) within,
        );
        from_one = subst (AllByRecursion (λ k. 1 ≤ k)) (sym shorter)
            (AllByRecursion-remove (λ k. 1 ≤ k) ids i right.privates.from_one);
        different = subst (IsDistinct nat_eq) (sym shorter) (IsDistinct-remove nat_eq ids i right.privates.different);
      };
      made = subst (AllByRecursion (λ k. k ≤ x.made)) (sym shorter)
          (AllByRecursion-remove (λ k. k ≤ x.made) ids i right.made);
      requesters = right.requesters;
      forms = right.forms;
    }

-- the bytes of one text among all
pub bytes_without : (ps : List Private) (i b : ℕ) → option_map (λ (p : Private). length p.text) (slice_get ps i)
    ≡ Some b
    → text_bytes (map numbered_text (remove ps i)) + b ≡ text_bytes (map numbered_text ps)
bytes_without [] i b e = cc
bytes_without (p ∷ ps) zero b e =
    let first : length p.text ≡ b = cc in
    omega (arith, sum_by-cons (λ (c : NumberedText). length c.text) (numbered_text p) (map numbered_text ps))
bytes_without (p ∷ ps) (suc i) b e =
    let rest : text_bytes (map numbered_text (remove ps i)) + b ≡ text_bytes (map numbered_text ps) =
    bytes_without ps i b e in
    omega (
      arith,
      sum_by-cons (λ (c : NumberedText). length c.text) (numbered_text p) (map numbered_text ps),
      sum_by-cons (λ (c : NumberedText). length c.text) (numbered_text p) (map numbered_text (remove ps i)),
    )

-- one private assertion less
pub kept_taken : (ps : List Private) (n : ℕ) (x : Session) (i b : ℕ) → i < length ps
    → option_map (λ (p : Private). length p.text) (slice_get ps i) ≡ Some b
    → IsKept ps n x → x.privates ≡ map numbered_text ps
    → IsKept (remove ps i) (n - b) (record x { privates = map numbered_text (remove ps i) })
kept_taken ps n x i b within bytes kept same =
    let texts : remove x.privates i ≡ map numbered_text (remove ps i) =
    ap (λ (ts : List NumberedText). remove ts i) same ∙ sym (map-remove numbered_text ps i) in
    let there : i < length x.privates =
    omega (arith, length-map ps numbered_text, ap (λ (ts : List NumberedText). length ts) same) in
    let sum : text_bytes (map numbered_text (remove ps i)) + b ≡ text_bytes (map numbered_text ps) =
    bytes_without ps i b bytes in
    let before : n ≡ text_bytes (map numbered_text ps) = kept.bytes ∙ ap text_bytes same in
    let fewer : text_bytes (remove x.privates i) ≡ text_bytes (map numbered_text (remove ps i)) = ap text_bytes texts in
    subst (λ (ts : List NumberedText). IsKept (remove ps i) (n - b) (record x { privates = ts })) texts
    (record {
      readings = AllByRecursion-remove IsReadPrivate ps i kept.readings;
      bytes = omega arith;
      session = privates_fewer x i there kept.session;
    })

-- so many bytes are counted, and fit
pub record AreCounted (n b : ℕ) : Type 0 where
  pub most : b ≤ n
  pub short : n ≤ PRIVATE_BYTES

pub counted_at : (ps : List Private) (n : ℕ) (x : Session) (i b : ℕ)
    → option_map (λ (p : Private). length p.text) (slice_get ps i) ≡ Some b
    → IsKept ps n x → x.privates ≡ map numbered_text ps → AreCounted n b
counted_at ps n x i b bytes kept same =
    let sum : text_bytes (map numbered_text (remove ps i)) + b ≡ text_bytes (map numbered_text ps) =
    bytes_without ps i b bytes in
    let before : n ≡ text_bytes (map numbered_text ps) = kept.bytes ∙ ap text_bytes same in
    let count : n ≡ text_bytes x.privates = kept.bytes in
    let short : text_bytes x.privates ≤ PRIVATE_BYTES = kept.session.privates.short in
    record { most = omega arith; short = omega arith }
