-- Each open session is pinned to a version of the history so far.
use Rattle.std.proofs.Common.{◌≡◌, ℕ, Bool, true, false, cond, List, [], ◌∷◌, ◌++◌, take, drop, Option, None, Some}
use Rattle.std.proofs.Common.{refl, sym, ap, ◌∙◌, subst, append_assoc, append-nil, take-append-drop}
use Rattle.std.specs.List.{AllByRecursion}
use Rattle.std.specs.Prelude.{length}
use Rattle.kn_principal.specs.Principals.{normal_form}
use Rattle.kn_history.specs.declared.update.Update.{Update}
use Rattle.kn_history.specs.Retained.{is_retained, retained_version}
use Rattle.kn_session.specs.Sessions.{Session}
use Rattle.kn_session.specs.Calls.{Call, call_change, add_requester, is_named}
use Rattle.kn_session.specs.Calls as C
use Rattle.kn_daemon.specs.Shapes.{shape_of}
use Rattle.kn_daemon.specs.Linearized.{update_by}
use Rattle.kn_daemon.specs.Daemon.{State, first_state, session_of}
use Rattle.kn_transcript.specs.Followed.{Answered, Follows, with_update, history_behind}
use Rattle.kn_transcript.specs.Laws.{IsVersionOf}
use Rattle.kn_transcript.proofs.SmallLaws.{Keeps, all-permitted, all-found}

IsPinned : List Update → Session → Type 0
IsPinned history x = IsVersionOf history x.pinned

-- a version of a history is one of a longer history
longer : (past : List Update) (update : Option Update) (version : List Update) → IsVersionOf past version
    → IsVersionOf (with_update past update) version
longer past None version is = is
longer past (Some update) version (later, is) =
    (later ++ update ∷ [], ap (λ (h : List Update). h ++ update ∷ []) is ∙ append_assoc version later (update ∷ []))

retained-is : (past : List Update) (n : ℕ) (version : List Update) → retained_version past n ≡ Some version
    → IsVersionOf past version
retained-is past n version e = by (is_retained (length past) n) e
  where
    by : (b : Bool) → cond b (Some (take n past)) None ≡ Some version → IsVersionOf past version
    by true e = let same : take n past ≡ version = cc e in
        (drop n past, sym (take-append-drop n past) ∙ ap (λ (v : List Update). v ++ drop n past) same)
    by false e = absurd (cc e)

requester-pinned : (text : List ℕ) (x : Session) → (add_requester text x).pinned ≡ x.pinned
requester-pinned text x = by (is_named x.requesters text)
  where
    by : (t : Bool) → (cond t x (record x { requesters = x.requesters ++ normal_form text ∷ [] })).pinned ≡ x.pinned
    by true = refl
    by false = refl

call-pinned : (call : Call) (x : Session) → (call_change call x).pinned ≡ x.pinned
call-pinned (C.Auth text) x = requester-pinned text x
call-pinned call x = refl

pinned-keeps : (past : List Update) (update : Option Update)
    → Keeps (IsPinned past) (IsPinned (with_update past update)) (with_update past update)
unfolding IsPinned
pinned-keeps past update = record {
  stays = λ x is. longer past update x.pinned is;
  calls = λ call x is. subst (IsVersionOf (with_update past update)) (sym (call-pinned call x))
      (longer past update x.pinned is);
  starts = λ number. ([], sym (append-nil (with_update past update)));
  pins = λ x is. ([], sym (append-nil (with_update past update)));
  pins_back = λ n version x e is. retained-is (with_update past update) n version e;
  moves = λ x is. longer past update x.pinned is;
  watches = λ values x is. longer past update x.pinned is;
}

pinned-followed : (past : List Update) (old : State) (answered : List Answered) (history : List Update) (new : State)
    → AllByRecursion (IsPinned past) old.sessions → Follows past old answered history new
    → AllByRecursion (IsPinned history) new.sessions
pinned-followed past old [] history new pinned follows =
    subst (λ (h : List Update). AllByRecursion (IsPinned h) new.sessions) (sym follows.0)
    (subst (λ (s : State). AllByRecursion (IsPinned past) s.sessions) (sym follows.1) pinned)
pinned-followed past old (a ∷ answered) history new pinned (mid, permitted, later) =
    let update = update_by 0 (shape_of a.request) a.reply in
    let behind = history_behind past (shape_of a.request) a.reply in
    pinned-followed behind mid answered history new
    (all-permitted (IsPinned past) (IsPinned behind) behind (pinned-keeps past update) permitted.grounds 0 old
    (shape_of a.request) a.reply mid pinned permitted.permitted)
    later

pub versions-are_told : (past : List Update) (answered : List Answered) (history : List Update) (state : State) (s : ℕ)
    (session : Session)
    → Follows past first_state answered history state → session_of state s ≡ Some session
    → IsVersionOf history session.pinned
unfolding IsPinned
versions-are_told past answered history state s session follows found =
    all-found (IsPinned history) s state.sessions session
    (pinned-followed past first_state answered history state tt follows) found
