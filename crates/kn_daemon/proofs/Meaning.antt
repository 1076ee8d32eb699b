-- Requests mean one query.
use Rattle.std.proofs.Common.{◌≡◌, ◌⊎◌, ℕ, List, [], ◌∷◌, ◌++◌, Some, inl, inr, refl, sym, ap, ◌∙◌, subst}
use Rattle.kn_history.specs.declared.update.Update.{Update}
use Rattle.kn_wire.specs.Requests.{Request}
use Rattle.kn_daemon.specs.Shapes.{WithProof, Shape, Asks, shape_of}
use Rattle.kn_session.specs.Sessions.{Session}
use Rattle.kn_daemon.specs.Daemon.{State, first_state}
use Rattle.kn_daemon.specs.Played.{no_config, played, AsksOf, IsAsking, IsLastQuery}

-- what is asked has one session and one list of values
asking-one : (state : State) (shape : Shape) (session other : Session) (values others : List (List ℕ))
    → AsksOf state shape session values → AsksOf state shape other others → (session ≡ other) × (values ≡ others)
asking-one state (Asks WithProof s names) session other values others h k =
    (by-session (sym h.0 ∙ k.0), by-values (sym h.1 ∙ k.1))
  where
    by-session : Some session ≡ Some other → session ≡ other
    by-session e = cc

    by-values : Some values ≡ Some others → values ≡ others
    by-values e = cc
asking-one state shape session other values others h k = absurd h

-- Two cuts of one list: at the same place, or the second is behind the first.
record IsBehind {A : Type 0} (front : List A) (x : A) (behind later : List A) (y : A) (rest : List A) : Type 0 where
  between : List A
  longer : later ≡ front ++ x ∷ between
  left : behind ≡ between ++ y ∷ rest

record IsSameCut {A : Type 0} (front : List A) (x : A) (later : List A) (y : A) : Type 0 where
  same_front : front ≡ later
  same : x ≡ y

abbrev Cuts : {A : Type 0} → List A → A → List A → List A → A → List A → Type 0
Cuts front x behind later y rest =
    IsSameCut front x later y ⊎ (IsBehind front x behind later y rest ⊎ IsBehind later y rest front x behind)

cuts : {A : Type 0} (front : List A) (x : A) (behind later : List A) (y : A) (rest : List A)
    → front ++ x ∷ behind ≡ later ++ y ∷ rest → Cuts front x behind later y rest
cuts [] x behind [] y rest e = inl (record { same_front = refl; same = cc })
cuts [] x behind (z ∷ later) y rest e = inr (inl (record { between = later; longer = cc; left = cc }))
cuts (z ∷ front) x behind [] y rest e = inr (inr (record { between = front; longer = cc; left = cc }))
cuts (z ∷ front) x behind (w ∷ later) y rest e = by (cuts front x behind later y rest (cc))
  where
    head : z ≡ w
    head = cc

    by : Cuts front x behind later y rest → Cuts (z ∷ front) x behind (w ∷ later) y rest
    by (inl at) =
        inl (record { same_front = ap (λ q. q ∷ front) head ∙ ap (λ qs. w ∷ qs) at.same_front; same = at.same })
    by (inr (inl at)) =
        inr (inl (record {
          between = at.between;
          longer = ap (λ q. q ∷ later) (sym head)
              ∙ ap (λ qs. z ∷ qs) at.longer;
          left = at.left;
        }))
    by (inr (inr at)) =
        inr (inr (record {
          between = at.between;
          longer = ap (λ q. q ∷ front) head
              ∙ ap (λ qs. w ∷ qs) at.longer;
          left = at.left;
        }))

pub one_meant : (history : List Update) (requests : List Request) (session other : Session)
    (values others : List (List ℕ)) → IsLastQuery history requests session values
    → IsLastQuery history requests other others
    → (session ≡ other) × (values ≡ others)
one_meant history requests session other values others h k =
    by (cuts h.front h.query h.behind k.front k.query k.behind (sym h.cut ∙ k.cut))
  where
    state_at : List Request → State
    state_at = played no_config history first_state

    by : Cuts h.front h.query h.behind k.front k.query k.behind → (session ≡ other) × (values ≡ others)
    by (inl at) =
        asking-one (state_at h.front) (shape_of h.query) session other values others h.asking
        (subst (λ q. IsAsking (state_at h.front) q other others) (sym at.same)
        (subst (λ front. IsAsking (state_at front) k.query other others) (sym at.same_front) k.asking))
    by (inr (inl at)) =
        absurd (h.last at.between k.query k.behind other others at.left
        (subst (λ front. IsAsking (state_at front) k.query other others) at.longer k.asking))
    by (inr (inr at)) =
        absurd (k.last at.between h.query h.behind session values at.left
        (subst (λ front. IsAsking (state_at front) h.query session values) at.longer h.asking))
