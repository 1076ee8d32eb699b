-- `NO` lines.
use Rattle.std.proofs.Common.{◌≡◌, ◌≢◌, ℕ, ◌+◌, Option, Some, None, List, [], ◌∷◌, ◌++◌, length, take, drop, codes}
use Rattle.std.proofs.Common.{IfSome, IfNone, MatchOption, Bor, sym, ap, ◌∙◌, arith, append_assoc, position}
use Rattle.std.specs.List.{before_first, position_or_len}
use Rattle.std.proofs.lemmas.List.{append_cancel_left, append_cancel_right, length-drop, take_all, drop_all}
use Rattle.std.proofs.lemmas.Option.{same_Some}
use Rattle.kn_base.specs.Decimal.{decimal_of}
use Rattle.kn_wire.specs.Requests.{is_space, behind_space}
use Rattle.kn_wire.proofs.Splits.{behind_first, behind_none}
use Rattle.kn_follow.specs.Answers.{IsNoLine}
use Rattle.kn_follow.proofs.AnswerForms.{first-place, no-place-at}

same-body : (body other : List ℕ) → codes "NO " ++ body ++ 10 ∷ [] ≡ codes "NO " ++ other ++ 10 ∷ [] → body ≡ other
same-body body other e =
    append_cancel_left (codes "NO ") body other
    (append_cancel_right (codes "NO " ++ body) (codes "NO " ++ other) (10 ∷ []) e)

-- what stands behind the first space
behind-at : (body : List ℕ) (at : ℕ) → Some at ≡ position is_space body → behind_space body ≡ Some (drop (at + 1) body)
behind-at body at e =
    let f = first-place is_space body at e in
    let same = f.same in
    let within = f.within in
    behind_first body (omega (arith, same, within)) ∙ ap (λ n. Some (drop (n + 1) body)) (sym same)

number-at : (body : List ℕ) (at : ℕ) → Some at ≡ position is_space body → before_first is_space body ≡ take at body
number-at body at e = ap (λ n. take n body) (sym (first-place is_space body at e).same)

-- A space stands in the text, with more behind it.
module _ (text body : List ℕ) (at : ℕ) (form : text ≡ codes "NO " ++ body ++ 10 ∷ [])
    (here : Some at ≡ position is_space body) (more : at + 1 ≡ length body → ⊥) where
  words-behind : behind_space body ≢ Some []
  words-behind e =
      let f = first-place is_space body at here in
      let within = f.within in
      let none : drop (at + 1) body ≡ [] = same_Some (drop (at + 1) body) [] (sym (behind-at body at here) ∙ e) in
      let size = sym (length-drop (at + 1) body) ∙ ap length none in
      more (omega (arith, within, size))

  pub words-code : (found : Option ℕ) → found ≡ decimal_of (take at body) → IfSome found (λ code. IsNoLine text code)
  words-code None e = tt
  words-code (Some code) e =
      record { body = body; form = form; number = ap decimal_of (number-at body at here) ∙ sym e; more = words-behind }

  pub words-none : (found : Option ℕ) → found ≡ decimal_of (take at body)
      → IfNone found ((code : ℕ) → IsNoLine text code → ⊥)
  words-none (Some code) e = tt
  words-none None e = λ code line.
      let same : line.body ≡ body = same-body line.body body (sym line.form ∙ form) in
      let clash = sym line.number ∙ ap (λ t. decimal_of (before_first is_space t)) same
      ∙ ap decimal_of (number-at body at here) ∙ sym e in
      absurd (cc clash)

-- nothing stands behind the space
pub bare-space : (text body : List ℕ) (at : ℕ) → text ≡ codes "NO " ++ body ++ 10 ∷ []
    → Some at ≡ position is_space body → at + 1 ≡ length body → (code : ℕ) → IsNoLine text code → ⊥
bare-space text body at form here last code line =
    let same : line.body ≡ body = same-body line.body body (sym line.form ∙ form) in
    let none : drop (at + 1) body ≡ [] = ap (λ n. drop n body) last ∙ drop_all (length body) body (omega arith) in
    line.more (ap behind_space same ∙ behind-at body at here ∙ ap Some none)

-- No space stands in it.
number-alone : (body : List ℕ) → None ≡ position is_space body → before_first is_space body ≡ body
number-alone body e = take_all (position_or_len is_space body) body (no-place-at is_space body e)

pub alone-code : (text body : List ℕ) → text ≡ codes "NO " ++ body ++ 10 ∷ [] → None ≡ position is_space body
    → (found : Option ℕ) → found ≡ decimal_of body → IfSome found (λ code. IsNoLine text code)
alone-code text body form here None e = tt
alone-code text body form here (Some code) e =
    let none : behind_space body ≡ None = behind_none body (no-place-at is_space body here) in
    record {
      body = body;
      form = form;
      number = ap decimal_of (number-alone body here) ∙ sym e;
      more = λ some. (let clash = sym none ∙ some in absurd (cc clash));
    }

pub alone-none : (text body : List ℕ) → text ≡ codes "NO " ++ body ++ 10 ∷ [] → None ≡ position is_space body
    → (found : Option ℕ) → found ≡ decimal_of body → IfNone found ((code : ℕ) → IsNoLine text code → ⊥)
alone-none text body form here (Some code) e = tt
alone-none text body form here None e = λ code line.
    let same : line.body ≡ body = same-body line.body body (sym line.form ∙ form) in
    let clash = sym line.number ∙ ap (λ t. decimal_of (before_first is_space t)) same
    ∙ ap decimal_of (number-alone body here) ∙ sym e in
    absurd (cc clash)

-- What stands between `NO ` and the newline.
pub body-some : (text rest : List ℕ) (found : Option (Bor (List ℕ))) → text ≡ codes "NO " ++ rest
    → MatchOption found ((front : List ℕ) → rest ≢ front ++ 10 ∷ []) (λ x. rest ≡ x.now ++ 10 ∷ [])
    → IfSome found (λ body. text ≡ codes "NO " ++ body.now ++ 10 ∷ [])
body-some text rest None first cases = tt
body-some text rest (Some body) first last =
    first ∙ ap (λ t. codes "NO " ++ t) last ∙ sym (append_assoc (codes "NO ") body.now (10 ∷ []))
