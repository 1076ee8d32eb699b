-- The requests that a script means, as far as they were taken.
use Rattle.std.proofs.Common.{◌≡◌, ◌<◌, ◌≤◌, ℕ, zero, suc, Bool, true, false, cond, List, [], ◌∷◌, ◌++◌, length, take}
use Rattle.std.proofs.Common.{refl, sym, ap, ◌∙◌, arith, append_assoc, append-nil, take_all, take_at}
use Rattle.std.specs.List.{list_any}
use Rattle.std.proofs.lemmas.List.{length_push}
use Rattle.kn_base.specs.declared.limits.TheConstants.{REQUESTS}
use Rattle.kn_wire.specs.Requests.{Request, AreRequests}
use Rattle.kn_daemon.specs.Played.{is_last, up_to_end}
use Rattle.kn_play.proofs.Requests.{GoOn, goes-on, ends-at}
use Rattle.kn_transcript.specs.Progress.{AreMeant}

-- the requests behind one
behind_one : Request → List Request → List Request
behind_one request others = cond (is_last request) [] (up_to_end others)

one-first : (request : Request) (others : List Request)
    → up_to_end (request ∷ others) ≡ request ∷ behind_one request others
unfolding behind_one
one-first request others = by (is_last request)
  where
    by : (b : Bool) → cond b (request ∷ []) (request ∷ up_to_end others) ≡ request ∷ cond b [] (up_to_end others)
    by true = refl
    by false = refl

-- of so many at most, one and those behind it
cut-at : (most : ℕ) (requests others : List Request) (request : Request) → length requests < most
    → (behind : List Request) × (take most (requests ++ request ∷ others) ≡ requests ++ request ∷ behind)
cut-at zero requests others request few = absurd (omega (arith, few))
cut-at (suc most) [] others request few = (take most others, refl)
cut-at (suc most) (first ∷ requests) others request few =
    let rest = cut-at most requests others request (omega (arith, few)) in
    (rest.0, ap (λ (rs : List Request). first ∷ rs) rest.1)

module _ (script : List ℕ) (requests : List Request) (goes_on : list_any is_last requests ≡ false) where
  -- a request is reached
  pub meant-at : (request : Request) → GoOn script (requests ++ request ∷ []) → length requests < REQUESTS
      → (behind : List Request) × AreMeant script requests (request ∷ behind)
  meant-at request g few =
      let cut = cut-at REQUESTS requests (behind_one request g.others) request few in (
        cut.0,
        record {
          all = (requests ++ request ∷ []) ++ g.others;
          rest = g.rest;
          read = g.whole;
          cut =
              ap (λ (rs : List Request). take REQUESTS (up_to_end rs)) (append_assoc requests (request ∷ []) g.others)
              ∙ ap (take REQUESTS) (goes-on requests (request ∷ g.others) goes_on
              ∙ ap (λ (rs : List Request). requests ++ rs) (one-first request g.others))
              ∙ cut.1;
        },
      )

  -- it is the last one
  pub meant-last : (request : Request) → GoOn script (requests ++ request ∷ []) → length requests < REQUESTS
      → is_last request ≡ true → AreMeant script (requests ++ request ∷ []) []
  meant-last request g few last =
      let size = length_push requests request in
      record {
        all = (requests ++ request ∷ []) ++ g.others;
        rest = g.rest;
        read = g.whole;
        cut =
            ap (λ (rs : List Request). take REQUESTS (up_to_end rs)) (append_assoc requests (request ∷ []) g.others)
            ∙ ap (take REQUESTS) (goes-on requests (request ∷ g.others) goes_on
            ∙ ap (λ (rs : List Request). requests ++ rs) (ends-at request g.others last))
            ∙ take_all REQUESTS (requests ++ request ∷ []) (omega (arith, size, few))
            ∙ sym (append-nil (requests ++ request ∷ []));
      }

  -- no more are left
  pub meant-spent : (rest : List ℕ) → AreRequests script requests rest → length requests ≤ REQUESTS
      → AreMeant script requests []
  meant-spent rest read few =
      record {
        all = requests;
        rest = rest;
        read = read;
        cut =
            ap (λ (rs : List Request). take REQUESTS (up_to_end rs)) (sym (append-nil requests))
            ∙ ap (take REQUESTS) (goes-on requests [] goes_on ∙ append-nil requests)
            ∙ take_all REQUESTS requests few
            ∙ sym (append-nil requests);
      }

  -- there are as many as a connection has
  pub meant-most : GoOn script requests → length requests ≡ REQUESTS → AreMeant script requests []
  meant-most g all =
      record {
        all = requests ++ g.others;
        rest = g.rest;
        read = g.whole;
        cut =
            ap (take REQUESTS) (goes-on requests g.others goes_on)
            ∙ take_at requests (up_to_end g.others) REQUESTS all
            ∙ sym (append-nil requests);
      }
