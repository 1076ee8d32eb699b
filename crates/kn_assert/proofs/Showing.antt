-- What is computed of one field is what its tokens spell, or its first fault.
use Rattle.std.proofs.Common.{◌≡◌, ℕ, ◌<◌, ◌⊎◌, inl, inr, ⊎_elim, Bool, true, false, Option, Some, None, Result, Ok}
use Rattle.std.proofs.Common.{Err, List, [], ◌∷◌, arith, refl, sym, ap, subst}
use Rattle.std.specs.Prelude.{◌↔◌, ok_or, ◌||◌, if◌then◌else◌}
use Rattle.kn_env.specs.declared.constant.Constant.{Constant as Set}
use Rattle.kn_lex.specs.Cutting.{TokenView}
use Rattle.kn_lex.specs.Literal.{literal_value}
use Rattle.kn_lex.specs.declared.token.Sort.{Sort}
use Rattle.kn_lex.specs.declared.token.Sort.TheVariants.{Name as NameSort, Text}
use Rattle.kn_fields.specs.Constants.{is_name_sort, is_text_sort}
use Rattle.kn_fields.specs.Faults.{fault_order}
use Rattle.kn_fields.specs.Depth.{IsTooDeep}
use Rattle.kn_fields.specs.Scanning.{goes_deep}
use Rattle.kn_trees.specs.declared.formula.Formula.{Formula}
use Rattle.kn_formula.specs.Licensing.{AreLicensees, Shows, licensees_of}
use Rattle.kn_formula.specs.declared.fault.FormulaFault.{FormulaFault}
use Rattle.kn_formula.specs.declared.fault.FormulaFault.TheVariants.{Syntax as NoFormula, Threshold as WrongThreshold}
use Rattle.kn_formula.specs.declared.fault.FormulaFault.TheVariants.{Name as NoName, NoMemory as NoFormulaMemory}
use Rattle.kn_trees.specs.declared.program.Program.{Program}
use Rattle.kn_program.specs.Conditions.{IsConditions, Shows as ProgramShows, program_of}
use Rattle.kn_program.specs.declared.fault.ProgramFault.{ProgramFault}
use Rattle.kn_program.specs.declared.fault.ProgramFault.TheVariants.{Syntax as NoProgram, Kind as WrongKind}
use Rattle.kn_program.specs.declared.fault.ProgramFault.TheVariants.{NoMemory as NoProgramMemory}
use Rattle.kn_assert.specs.Parts.{is_principal_token, principal_of, normal_in, text_by, only_of, one_by, authorizer_of}
use Rattle.kn_assert.specs.Parts.{conditions_by, licensees_by, signature_of}
use Rattle.kn_assert.specs.Reading.{shallow, authorizer_in, conditions_in, licensees_in, signature_in}
use Rattle.kn_assert.specs.AssertionTexts.{IsOne, AuthorizerShows, ConditionsShows, LicenseesShows, SignatureShows}
use Rattle.kn_fields.specs.declared.fault.ReadFault.{ReadFault}
use Rattle.kn_fields.specs.declared.fault.ReadFault.TheVariants.{TooDeep, Syntax, Kind, Threshold, Name}

-- what the laws below say: the test of depth is what it is to go too deep, and what is found of a formula or of a
-- program is what the tokens state or show
pub record PartsTold : Type 0 where
  pub deep : (tokens : List TokenView) → goes_deep 0 0 tokens ≡ true → IsTooDeep tokens
  pub not_deep : (tokens : List TokenView) → goes_deep 0 0 tokens ≡ false → IsTooDeep tokens → ⊥
  pub states : (constants : List Set) (tokens : List TokenView) (l : Option Formula)
      → licensees_of constants tokens ≡ Ok l ↔ AreLicensees constants tokens l
  pub shows : (constants : List Set) (tokens : List TokenView) (fault : FormulaFault)
      → licensees_of constants tokens ≡ Err fault ↔ Shows constants tokens fault
  pub states_program : (tokens : List TokenView) (p : Option Program) → program_of tokens ≡ Ok p ↔ IsConditions tokens p
  pub shows_program : (tokens : List TokenView) (fault : ProgramFault)
      → program_of tokens ≡ Err fault ↔ ProgramShows tokens fault

-- the fault has a lower number than the other one, or is it
abbrev pub IsBefore : ReadFault → ReadFault → Type 0
IsBefore fault other = (fault_order fault < fault_order other) ⊎ (fault ≡ other)

-- what is computed has a fault, and of this and another one it is the first
abbrev pub Least : {X : Type 0} → Result X ReadFault → ReadFault → Type 0
Least read other = (fault : ReadFault) × (read ≡ Err fault) × IsBefore fault other

-- what is computed is stated, or its fault is shown
abbrev pub Tells : {X : Type 0} → (X → Type 0) → (ReadFault → Type 0) → Result X ReadFault → Type 0
Tells States Shows (Ok x) = States x
Tells States Shows (Err fault) = Shows fault

-- and whatever is stated is computed; where a fault is shown, a first one is computed
pub record IsTold {X : Type 0} (States : X → Type 0) (Shows : ReadFault → Type 0) (read : Result X ReadFault) :
    Type 0 where
  pub tells : Tells States Shows read
  pub stated : (x : X) → States x → read ≡ Ok x
  pub least : (fault : ReadFault) → Shows fault → Least read fault

pub tells_value : {X : Type 0} (States : X → Type 0) (Shows : ReadFault → Type 0) (read : Result X ReadFault) (x : X)
    → Tells States Shows read → read ≡ Ok x → States x
tells_value States Shows read x tells e = subst (Tells States Shows) e tells

pub tells_fault : {X : Type 0} (States : X → Type 0) (Shows : ReadFault → Type 0) (read : Result X ReadFault)
    (fault : ReadFault) → Tells States Shows read → read ≡ Err fault → Shows fault
tells_fault States Shows read fault tells e = subst (Tells States Shows) e tells

-- these tokens go too deep, or this is computed of them
abbrev IsShown : {X : Type 0} → ℕ → List TokenView → Result X ReadFault → ReadFault → Type 0
IsShown n tokens read fault = ((fault ≡ TooDeep n) × IsTooDeep tokens) ⊎ ((read ≡ Err fault) × (15 < fault_order fault))

-- what goes too deep is read no further
shallow_told : {X : Type 0} (States : X → Type 0) (Shows : ReadFault → Type 0) (n : ℕ) (tokens : List TokenView)
    (read : Result X ReadFault) → PartsTold
    → Tells States Shows read → (IsTooDeep tokens → Shows (TooDeep n)) → ((x : X) → States x → read ≡ Ok x)
    → ((fault : ReadFault) → Shows fault → IsShown n tokens read fault)
    → IsTold (λ x. (IsTooDeep tokens → ⊥) × States x) Shows (shallow n tokens read)
shallow_told {X} States Shows n tokens read told tells deep stated shown = by (goes_deep 0 0 tokens) refl
  where
    past : (Shallow : Type 0) → Shallow → (r : Result X ReadFault) → Tells States Shows r
        → Tells (λ x. Shallow × States x) Shows r
    past Shallow h (Ok x) is = (h, is)
    past Shallow h (Err fault) is = is

    by : (b : Bool) → goes_deep 0 0 tokens ≡ b
        → IsTold (λ x. (IsTooDeep tokens → ⊥) × States x) Shows (if b then Err (TooDeep n) else read)
    by true e = record {
      tells = deep (told.deep tokens e);
      stated = λ x h. absurd (h.0 (told.deep tokens e));
      least = λ fault h. (TooDeep n, refl, ⊎_elim (λ k. inr (sym k.0)) (λ k. inl k.1) (shown fault h));
    }
    by false e = record {
      tells = past (IsTooDeep tokens → ⊥) (told.not_deep tokens e) read tells;
      stated = λ x h. stated x h.1;
      least = λ fault h. (
        fault,
        ⊎_elim (λ k. absurd (told.not_deep tokens e k.1)) (λ k. k.0) (shown fault h),
        inr refl,
      );
    }

-- Authorizer

-- a token that states a principal is a name or a literal
principal_token : (constants : List Set) (token : TokenView) (a : List ℕ) → principal_of constants token ≡ Some a
    → is_principal_token token ≡ true
unfolding principal_of
principal_token constants token a e = by token.sort e
  where
    by : (sort : Sort) → normal_in (text_by constants sort token.text) ≡ Some a
        → (is_name_sort sort || is_text_sort sort) ≡ true
    by NameSort e = refl
    by Text e = refl
    by _ e = absurd (cc)

-- what one token states that passes a test, or a fault
one_tells : {X : Type 0} (States : X → Type 0) (Shows : ReadFault → Type 0) (n : ℕ) (test : TokenView → Bool)
    (read : TokenView
    → Result X ReadFault) (tokens : List TokenView)
    → ((IsOne tokens (λ token. test token ≡ true) → ⊥) → Shows (Syntax n))
    → ((token : TokenView) → tokens ≡ token ∷ [] → test token ≡ true → Tells States Shows (read token))
    → Tells States Shows (one_by n test read (only_of tokens))
one_tells States Shows n test read [] none one = none (λ h. cc)
one_tells States Shows n test read (t ∷ u ∷ ts) none one = none (λ h. cc)
one_tells States Shows n test read (token ∷ []) none one = by (test token) refl
  where
    by : (b : Bool) → test token ≡ b → Tells States Shows (if b then read token else Err (Syntax n))
    by true e = one token refl e
    by false e = none (λ h. let same : h.0 ≡ token = cc (h.1) in let passes = h.2 in absurd (cc (ap test same)))

none_passes : {X : Type 0} (n : ℕ) (test : TokenView → Bool) (read : TokenView → Result X ReadFault)
    (tokens : List TokenView)
    → (IsOne tokens (λ token. test token ≡ true) → ⊥)
    → one_by n test read (only_of tokens) ≡ Err (Syntax n)
none_passes n test read [] none = refl
none_passes n test read (t ∷ u ∷ ts) none = refl
none_passes {X} n test read (token ∷ []) none = by (test token) refl
  where
    by : (b : Bool) → test token ≡ b
        → ◌≡◌ {A = Result X ReadFault} (if b then read token else Err (Syntax n)) (Err (Syntax n))
    by true e = absurd (none (token, refl, e))
    by false e = refl

abbrev AuthorizerStates : List Set → List TokenView → List ℕ → Type 0
AuthorizerStates constants tokens a = IsOne tokens (λ token. principal_of constants token ≡ Some a)

authorizer_tells : (constants : List Set) (tokens : List TokenView)
    → Tells (AuthorizerStates constants tokens) (AuthorizerShows constants tokens) (authorizer_of constants tokens)
unfolding authorizer_of
authorizer_tells constants tokens =
    one_tells (AuthorizerStates constants tokens) (AuthorizerShows constants tokens) 1 is_principal_token _ tokens
    (λ none. (refl, none))
    (λ token is passes. by token is passes (principal_of constants token) refl)
  where
    by : (token : TokenView) → tokens ≡ token ∷ [] → is_principal_token token ≡ true → (o : Option (List ℕ))
        → principal_of constants token ≡ o
        → Tells (AuthorizerStates constants tokens) (AuthorizerShows constants tokens) (ok_or o (Name 1))
    by token is passes (Some a) named = (token, is, named)
    by token is passes None named = (refl, (token, is, (passes, named)))

authorizer_shown : (constants : List Set) (tokens : List TokenView) (fault : ReadFault)
    → AuthorizerShows constants tokens fault
    → IsShown 1 tokens (authorizer_of constants tokens) fault
unfolding authorizer_of
authorizer_shown constants tokens (TooDeep number) h = inl (ap TooDeep h.0, h.1)
authorizer_shown constants tokens (Syntax number) h =
    inr (rw h.0 (none_passes 1 is_principal_token _ tokens h.1), omega arith)
authorizer_shown constants tokens (Name number) h = inr (rw (h.1.1, h.1.2.0, h.1.2.1, h.0) refl, omega arith)
authorizer_shown constants tokens _ h = absurd h

authorizer_stated : (constants : List Set) (tokens : List TokenView) (a : List ℕ) → AuthorizerStates constants tokens a
    → authorizer_of constants tokens ≡ Ok a
unfolding authorizer_of
authorizer_stated constants tokens a h = rw (h.1, principal_token constants h.0 a h.2, h.2) refl

pub authorizer_told : PartsTold → (constants : List Set) (tokens : List TokenView)
    → IsTold (λ a. (IsTooDeep tokens → ⊥) × AuthorizerStates constants tokens a) (AuthorizerShows constants tokens)
    (authorizer_in constants tokens)
authorizer_told told constants tokens =
    shallow_told (AuthorizerStates constants tokens) (AuthorizerShows constants tokens) 1 tokens
    (authorizer_of constants tokens) told
    (authorizer_tells constants tokens) (λ deep. (refl, deep)) (authorizer_stated constants tokens)
    (authorizer_shown constants tokens)

-- Conditions

conditions_tells : PartsTold → (tokens : List TokenView)
    → Tells (IsConditions tokens) (ConditionsShows tokens) (conditions_by (program_of tokens))
conditions_tells told tokens = by (program_of tokens) refl
  where
    by : (r : Result (Option Program) ProgramFault) → program_of tokens ≡ r
        → Tells (IsConditions tokens) (ConditionsShows tokens) (conditions_by r)
    by (Ok p) e = (told.states_program tokens p).0 e
    by (Err NoProgram) e = (refl, (told.shows_program tokens NoProgram).0 e)
    by (Err WrongKind) e = (refl, (told.shows_program tokens WrongKind).0 e)
    by (Err NoProgramMemory) e = (told.shows_program tokens NoProgramMemory).0 e

conditions_shown : PartsTold → (tokens : List TokenView) (fault : ReadFault) → ConditionsShows tokens fault
    → IsShown 3 tokens (conditions_by (program_of tokens)) fault
conditions_shown told tokens (TooDeep number) h = inl (ap TooDeep h.0, h.1)
conditions_shown told tokens (Syntax number) h =
    inr (rw ((told.shows_program tokens NoProgram).1 h.1, h.0) refl, omega arith)
conditions_shown told tokens (Kind number) h =
    inr (rw ((told.shows_program tokens WrongKind).1 h.1, h.0) refl, omega arith)
conditions_shown told tokens _ h = absurd h

pub conditions_told : PartsTold → (tokens : List TokenView)
    → IsTold (λ p. (IsTooDeep tokens → ⊥) × IsConditions tokens p) (ConditionsShows tokens) (conditions_in tokens)
conditions_told told tokens =
    shallow_told (IsConditions tokens) (ConditionsShows tokens) 3 tokens (conditions_by (program_of tokens)) told
    (conditions_tells told tokens) (λ deep. (refl, deep)) (λ p h. ap conditions_by ((told.states_program tokens p).1 h))
    (conditions_shown told tokens)

-- Licensees

licensees_tells : PartsTold → (constants : List Set) (tokens : List TokenView)
    → Tells (AreLicensees constants tokens) (LicenseesShows constants tokens)
    (licensees_by (licensees_of constants tokens))
licensees_tells told constants tokens = by (licensees_of constants tokens) refl
  where
    by : (r : Result (Option Formula) FormulaFault) → licensees_of constants tokens ≡ r
        → Tells (AreLicensees constants tokens) (LicenseesShows constants tokens) (licensees_by r)
    by (Ok l) e = (told.states constants tokens l).0 e
    by (Err NoFormula) e = (refl, (told.shows constants tokens NoFormula).0 e)
    by (Err WrongThreshold) e = (refl, (told.shows constants tokens WrongThreshold).0 e)
    by (Err NoName) e = (refl, (told.shows constants tokens NoName).0 e)
    by (Err NoFormulaMemory) e = (told.shows constants tokens NoFormulaMemory).0 e

licensees_shown : PartsTold → (constants : List Set) (tokens : List TokenView) (fault : ReadFault)
    → LicenseesShows constants tokens fault
    → IsShown 5 tokens (licensees_by (licensees_of constants tokens)) fault
licensees_shown told constants tokens (TooDeep number) h = inl (ap TooDeep h.0, h.1)
licensees_shown told constants tokens (Syntax number) h =
    inr (rw ((told.shows constants tokens NoFormula).1 h.1, h.0) refl, omega arith)
licensees_shown told constants tokens (Threshold number) h =
    inr (rw ((told.shows constants tokens WrongThreshold).1 h.1, h.0) refl, omega arith)
licensees_shown told constants tokens (Name number) h =
    inr (rw ((told.shows constants tokens NoName).1 h.1, h.0) refl, omega arith)
licensees_shown told constants tokens _ h = absurd h

pub licensees_told : PartsTold → (constants : List Set) (tokens : List TokenView)
    → IsTold (λ l. (IsTooDeep tokens → ⊥) × AreLicensees constants tokens l) (LicenseesShows constants tokens)
    (licensees_in constants tokens)
licensees_told told constants tokens =
    shallow_told (AreLicensees constants tokens) (LicenseesShows constants tokens) 5 tokens
    (licensees_by (licensees_of constants tokens)) told
    (licensees_tells told constants tokens) (λ deep. (refl, deep))
    (λ l h. ap licensees_by ((told.states constants tokens l).1 h))
    (licensees_shown told constants tokens)

-- Signature

text_sort : (sort : Sort) → is_text_sort sort ≡ true → sort ≡ Text
text_sort Text e = refl
text_sort _ e = absurd (cc)

abbrev SignatureStates : List TokenView → Option (List ℕ) → Type 0
SignatureStates tokens s = IsOne tokens (λ token. (token.sort ≡ Text) × (s ≡ Some (literal_value token.text)))

signature_tells : (tokens : List TokenView)
    → Tells (SignatureStates tokens) (SignatureShows tokens) (signature_of tokens)
unfolding signature_of
signature_tells tokens =
    one_tells (SignatureStates tokens) (SignatureShows tokens) 7 (λ token. is_text_sort token.sort) _ tokens
    (λ none. (refl, λ one. none (one.0, one.1, ap is_text_sort one.2)))
    (λ token is text. (token, is, (text_sort token.sort text, refl)))

signature_shown : (tokens : List TokenView) (fault : ReadFault) → SignatureShows tokens fault
    → IsShown 7 tokens (signature_of tokens) fault
unfolding signature_of
signature_shown tokens (TooDeep number) h = inl (ap TooDeep h.0, h.1)
signature_shown tokens (Syntax number) h =
    inr (
      rw h.0 (none_passes 7 (λ token. is_text_sort token.sort) _ tokens
          (λ one. h.1 (one.0, one.1, text_sort one.0.sort one.2))),
      omega arith,
    )
signature_shown tokens _ h = absurd h

signature_stated : (tokens : List TokenView) (s : Option (List ℕ)) → SignatureStates tokens s
    → signature_of tokens ≡ Ok s
unfolding signature_of
signature_stated tokens s h = rw (h.1, h.2.0, h.2.1) refl

pub signature_told : PartsTold → (tokens : List TokenView)
    → IsTold (λ s. (IsTooDeep tokens → ⊥) × SignatureStates tokens s) (SignatureShows tokens) (signature_in tokens)
signature_told told tokens =
    shallow_told (SignatureStates tokens) (SignatureShows tokens) 7 tokens (signature_of tokens) told
    (signature_tells tokens) (λ deep. (refl, deep)) (signature_stated tokens) (signature_shown tokens)
