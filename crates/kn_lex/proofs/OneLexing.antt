-- Lexemes that reach a place are the only ones, and the first fault after clean ones is the least.
use Rattle.std.proofs.Common.{◌≡◌, ℕ, Bool, ◌+◌, inl, List, [], ◌∷◌, ◌++◌, Some, None, take, drop, arith, refl, ap}
use Rattle.std.proofs.Common.{append_assoc}
use Rattle.kn_lex.specs.Cutting.{IsLexeme, Reaches, lexeme_bytes, place_after, token_of, tokens_of}
use Rattle.kn_lex.specs.Faults.{Shows}
use Rattle.kn_lex.specs.Scanning.{lexeme_at, plain_lexeme, stuck_fault, body_len, zero_place, fault_at}
use Rattle.kn_lex.specs.declared.lexeme.Lexeme.{Lexeme}
use Rattle.kn_lex.specs.declared.lexeme.Place.{Place}
use Rattle.kn_lex.specs.declared.lexeme.Context.{Context}
use Rattle.kn_lex.specs.declared.lexeme.Context.TheVariants.{CommentBody}
use Rattle.kn_lex.specs.declared.fault.LexFault.{LexFault}
use Rattle.kn_lex.proofs.Lexemes.{lexeme_is}
use Rattle.kn_lex.proofs.PlaceFaults.{Least, shown_least, shown_from, fault_within}

-- at most one lexeme begins at a place
one_lexeme : (context : Context) (text : List ℕ) (p q : Lexeme × ℕ) → IsLexeme context text p.0 p.1
    → IsLexeme context text q.0 q.1 → p ≡ q
one_lexeme context text p q h k = grind (arith, lexeme_is)

-- no fault is found along the lexemes
abbrev pub IsClean : Place → ℕ → List ℕ → List (Lexeme × ℕ) → Type 0
IsClean place at text [] = Unit {0}
IsClean place at text (p ∷ ps) =
    (fault_at place at text ≡ None) × IsClean (place_after place p.0 (take p.1 text)) (at + p.1) (drop p.1 text) ps

-- where lexemes are clean, others that show a fault go on behind them
pub through : (front : List (Lexeme × ℕ)) (place : Place) (at : ℕ) (text : List ℕ) (end : Place) (left : List ℕ)
    (other_front : List (Lexeme × ℕ)) (other_end : Place) (other_left : List ℕ) (other : LexFault) (b : ℕ)
    → Reaches place text front end left → IsClean place at text front
    → Reaches place text other_front other_end other_left → b ≡ at + lexeme_bytes other_front
    → Shows other_end b other_left other
    → (rest : List (Lexeme × ℕ)) × Reaches end left rest other_end other_left
    × (b ≡ at + lexeme_bytes front + lexeme_bytes rest)
through [] place at text end left other_front other_end other_left other b h c k t o =
    (other_front, rw (← h.0, ← h.1) k, omega (arith, t))
through (p ∷ ps) place at text end left [] other_end other_left other b h c k t o = grind (arith, shown_least)
through (p ∷ ps) place at text end left (q ∷ qs) other_end other_left other b h c k t o =
    let same = one_lexeme place.context text p q h.0 k.0 in
    let size : p.1 ≡ q.1 = ap (λ (r : Lexeme × ℕ). r.1) same in
    let rest = through ps (place_after place p.0 (take p.1 text)) (at + p.1) (drop p.1 text) end left qs other_end
    other_left other b
    h.1 c.1 (rw same k.1) (omega (arith, t, size)) o in
    (rest.0, rest.1, omega (arith, rest.2))

-- every other fault behind a place stands behind the one that the place shows
pub least_behind : (rest : List (Lexeme × ℕ)) (place : Place) (at : ℕ) (left : List ℕ) (fault : LexFault)
    (other_end : Place) (other_left : List ℕ) (other : LexFault) (b : ℕ) → fault_at place at left ≡ Some fault
    → Reaches place left rest other_end other_left → b ≡ at + lexeme_bytes rest → Shows other_end b other_left other
    → Least other (Some fault)
least_behind [] place at left fault other_end other_left other b e k t o = grind (arith, shown_least)
least_behind (q ∷ qs) place at left fault other_end other_left other b e k t o =
    inl (omega (arith, t, fault_within place at left fault q.0 q.1 e k.0, shown_from other_end b other_left other o))

-- at the end of a text no lexeme begins, unless the body of a comment still has to come
end_lexeme : (context : Context) → (context ≡ CommentBody → ⊥) → lexeme_at context [] ≡ None
unfolding plain_lexeme
end_lexeme context n = grind arith

-- the end of a text shows no fault
pub end_clean : (context : Context) (has_token : Bool) (at : ℕ)
    → fault_at (record { context = context; has_token = has_token }) at []
    ≡ None
unfolding plain_lexeme stuck_fault body_len zero_place
end_clean context has_token at = grind arith

nothing : (context : Context) (q : Lexeme × ℕ) → (context ≡ CommentBody → ⊥) → IsLexeme context [] q.0 q.1 → ⊥
nothing context q none cut = absurd (cc (end_lexeme context none, lexeme_is context [] q.0 q.1 cut))

-- nothing behind the end shows a fault
pub none_behind : (rest : List (Lexeme × ℕ)) (end : Place) (at : ℕ) (other_end : Place) (other_left : List ℕ)
    (other : LexFault) (b : ℕ)
    → (end.context ≡ CommentBody → ⊥) → Reaches end [] rest other_end other_left → b ≡ at + lexeme_bytes rest
    → Shows other_end b other_left other → ⊥
none_behind [] end at other_end other_left other b none k t o = grind arith
none_behind (q ∷ qs) end at other_end other_left other b none k t o = nothing end.context q none k.0

-- one more lexeme
pub one_more : (front : List (Lexeme × ℕ)) (place : Place) (at : ℕ) (text : List ℕ) (end : Place) (left : List ℕ)
    (p : Lexeme × ℕ) (a : ℕ)
    → Reaches place text front end left → IsClean place at text front → a ≡ at + lexeme_bytes front
    → IsLexeme end.context left p.0 p.1
    → fault_at end a left ≡ None
    → Reaches place text (front ++ p ∷ []) (place_after end p.0 (take p.1 left)) (drop p.1 left)
    × IsClean place at text (front ++ p ∷ [])
    × (lexeme_bytes (front ++ p ∷ []) ≡ lexeme_bytes front + p.1)
    × (tokens_of place at text (front ++ p ∷ []) ≡ tokens_of place at text front
    ++ token_of end.context a p.0 (take p.1 left))
one_more [] place at text end left p a h c s cut e = grind arith
one_more (q ∷ qs) place at text end left p a h c s cut e =
    let here = token_of place.context at q.0 (take q.1 text) in
    let behind = place_after place q.0 (take q.1 text) in
    let rest = one_more qs behind (at + q.1) (drop q.1 text) end left p a h.1 c.1 (omega (arith, s)) cut e in (
      (h.0, rest.0),
      (c.0, rest.1),
      omega (arith, rest.2),
      cc (
        rest.3,
        append_assoc here (tokens_of behind (at + q.1) (drop q.1 text) qs)
            (token_of end.context a p.0 (take p.1 left)),
      ),
    )

-- at most one list of lexemes cuts a text

pub one_cutting : (front other : List (Lexeme × ℕ)) (place : Place) (text : List ℕ) (end other_end : Place)
    → Reaches place text front end [] → (end.context ≡ CommentBody → ⊥) → Reaches place text other other_end []
    → (other_end.context ≡ CommentBody → ⊥)
    → front ≡ other
one_cutting [] [] place text end other_end h n k m = refl
one_cutting [] (q ∷ qs) place text end other_end h n k m = absurd (nothing end.context q n (rw (← h.0, ← h.1) k.0))
one_cutting (p ∷ ps) [] place text end other_end h n k m =
    absurd (nothing other_end.context p m (rw (← k.0, ← k.1) h.0))
one_cutting (p ∷ ps) (q ∷ qs) place text end other_end h n k m =
    let same = one_lexeme place.context text p q h.0 k.0 in
    let rest = one_cutting ps qs (place_after place p.0 (take p.1 text)) (drop p.1 text) end other_end h.1 n
    (rw same k.1) m in
    cc
