-- No reply's text begins another's.
use Rattle.std.proofs.Common.{◌≡◌, ◌≢◌, ℕ, ◌^◌, ◌<◌, Bool, true, false, not, ◌&&◌, ◌==◌, cond, List, [], ◌∷◌, ◌++◌}
use Rattle.std.proofs.Common.{length, get_or, drop, decimal, refl, sym, ap, ◌∙◌, arith, subst, inl, inr, append_assoc}
use Rattle.std.proofs.lemmas.Bool.{and_parts, cases_eq, eqb-true, eqb-false, ne_eqb, not-true, false≢true}
use Rattle.std.proofs.lemmas.List.Folds.{list_any-append}
use Rattle.kn_base.proofs.Cuts.{cut_once}
use Rattle.kn_base.proofs.Numerals.{digits_lack}
use Rattle.kn_proof.specs.Lines.{IsLine}
use Rattle.kn_reply.specs.Replies.{Reply, Done, Started, Number, PrivateAdded, Added, Value, Batched, PinnedAt, Log}
use Rattle.kn_reply.specs.Replies.{News, Critical, No, NoMemory, reply_text}
use Rattle.kn_reply_reader.specs.Forms.{fill_form, IsOfOneForm}
use Rattle.kn_reply_reader.specs.OneLineForms.{one_line_forms}
use Rattle.kn_reply_reader.specs.Kinds.{Kind, OneLine, Proved, LogKind, NewsKind, CriticalKind, kind_of, IsTextOf}
use Rattle.kn_reply_reader.specs.Apart.{RepliesAreApart}
use Rattle.kn_reply_reader.proofs.Written.{written_is}
use Rattle.kn_reply_reader.proofs.FormLaws.{filled_number, filled_byte}
use Rattle.kn_reply_reader.proofs.OneLineLaws.{one_line_to}
use Rattle.kn_reply_reader.proofs.ReplyLaws.{news_apart, critical_apart}
use Rattle.kn_reply_reader.proofs.ValueTextLaws.{value_apart}
use Rattle.kn_reply_reader.proofs.LogLaws.{log_apart}

-- Forms of one line.

abbrev is_line_form : List ℕ → Bool
is_line_form [] = false
is_line_form (b ∷ []) = b == 10
is_line_form (b ∷ c ∷ form) = not (b == 10) && is_line_form (c ∷ form)

abbrev are_line_forms : List (List ℕ) → Bool
are_line_forms [] = true
are_line_forms (form ∷ forms) = is_line_form form && are_line_forms forms

line_more : (b : ℕ) (form ns : List ℕ) → b ≢ 10 → ((ms : List ℕ) → IsLine (fill_form form ms))
    → IsLine (fill_form (b ∷ form) ns)
line_more b form ns other line = elim (cases_eq b 35) [
  | inl hash ↦
      let rest = line (drop 1 ns) in
      let n = get_or ns 0 0 in
      record {
        front = decimal n ++ rest.front;
        spelled = filled_number b form ns hash ∙ ap (λ (l : List ℕ). decimal n ++ l) rest.spelled
            ∙ sym (append_assoc (decimal n) rest.front (10 ∷ []));
        whole =
            let clean = digits_lack 10 (decimal n) (omega arith) (written_is n).all in
            let clean' = rest.whole in
            rw (list_any-append (λ b. b == 10) (decimal n) rest.front, clean, clean') refl;
      }
  | inr byte ↦
      let rest = line ns in
      record {
        front = b ∷ rest.front;
        spelled = filled_byte b form ns byte ∙ ap (λ (l : List ℕ). b ∷ l) rest.spelled;
        whole = let first : (b == 10) ≡ false = ne_eqb b 10 other in let clean = rest.whole in rw (first, clean) refl;
      }
]

filled_line : (form ns : List ℕ) → is_line_form form ≡ true → IsLine (fill_form form ns)
filled_line [] ns is = absurd (false≢true is)
filled_line (b ∷ []) ns is =
    let same = eqb-true b 10 is in
    record {
      front = [];
      spelled = filled_byte b [] ns (λ e. omega (arith, e, same)) ∙ ap (λ (x : ℕ). x ∷ []) same;
      whole = refl;
    }
filled_line (b ∷ c ∷ form) ns is =
    let parts = and_parts (not (b == 10)) (is_line_form (c ∷ form)) is in
    line_more b (c ∷ form) ns (eqb-false b 10 (not-true (b == 10) parts.0)) (λ ms. filled_line (c ∷ form) ms parts.1)

form_line : (forms : List (List ℕ)) (text : List ℕ) → are_line_forms forms ≡ true → IsOfOneForm forms text → IsLine text
form_line [] text are is = absurd is
form_line (form ∷ forms) text are (inl is) =
    subst IsLine (sym is.1) (filled_line form is.0 (and_parts (is_line_form form) (are_line_forms forms) are).0)
form_line (form ∷ forms) text are (inr is) =
    form_line forms text (and_parts (is_line_form form) (are_line_forms forms) are).1 is

line_apart : (a b r s : List ℕ) → IsLine a → IsLine b → a ++ r ≡ b ++ s → a ≡ b
line_apart a b r s x y e =
    let whole : x.front ++ 10 ∷ r ≡ y.front ++ 10 ∷ s =
    sym (append_assoc x.front (10 ∷ []) r) ∙ ap (λ (l : List ℕ). l ++ r) (sym x.spelled) ∙ e
    ∙ ap (λ (l : List ℕ). l ++ s) y.spelled ∙ append_assoc y.front (10 ∷ []) s in
    x.spelled ∙ ap (λ (l : List ℕ). l ++ 10 ∷ []) (cut_once 10 x.front y.front r s x.whole y.whole whole).0
    ∙ sym y.spelled

one_line_apart : (a b r s : List ℕ) → IsTextOf OneLine a → IsTextOf OneLine b → a ++ r ≡ b ++ s → a ≡ b
one_line_apart a b r s is is' =
    line_apart a b r s (form_line one_line_forms a refl (one_line_to a is))
    (form_line one_line_forms b refl (one_line_to b is'))

-- The kind is told by the first two bytes.

abbrev kind_by : ℕ → ℕ → Kind
kind_by a b = cond (a == 86) Proved
    (cond (a == 76) LogKind (cond (a == 67) CriticalKind (cond (b == 69) NewsKind OneLine)))

abbrev front_kind : List ℕ → Kind
front_kind text = kind_by (get_or text 0 0) (get_or text 1 0)

kind_told : (reply : Reply) (r : List ℕ) → front_kind (reply_text reply ++ r) ≡ kind_of reply
kind_told Done r = refl
kind_told (Started s version) r = refl
kind_told (Number version) r = refl
kind_told (PrivateAdded k) r = refl
kind_told (Added k version) r = refl
kind_told (Value index name version rows) r = refl
kind_told (Batched first added version) r = refl
kind_told (PinnedAt version newest) r = refl
kind_told (Log n history) r = refl
kind_told (News index name version) r = refl
kind_told (Critical index ids) r = refl
kind_told (No refusal) r = refl
kind_told NoMemory r = refl

same_kind : (left : List ℕ) (kind : Kind) (a b r s : List ℕ) → length left < 2 ^ 64 → IsTextOf kind a → IsTextOf kind b
    → left ≡ a ++ r → left ≡ b ++ s → a ≡ b
same_kind left OneLine a b r s small is is' e e' = one_line_apart a b r s is is' (sym e ∙ e')
same_kind left Proved a b r s small is is' e e' = (value_apart a b r s is is' (sym e ∙ e')).0
same_kind left LogKind a b r s small is is' e e' = (log_apart a b r s is is' (sym e ∙ e')).0
same_kind left NewsKind a b r s small is is' e e' = (news_apart a b r s is is' (sym e ∙ e')).0
same_kind left CriticalKind a b r s small is is' e e' = critical_apart left a b r s small is is' e e'

pub replies_apart : RepliesAreApart
replies_apart left reply other small is is' =
    let kind : kind_of other ≡ kind_of reply =
    sym (kind_told other is'.more) ∙ ap front_kind (sym is'.cut ∙ is.cut) ∙ kind_told reply is.more in
    same_kind left (kind_of reply) (reply_text reply) (reply_text other) is.more is'.more small
    (record { reply = reply; has = is.text; is = refl; same = refl })
    (record { reply = other; has = is'.text; is = kind; same = refl }) is.cut is'.cut
