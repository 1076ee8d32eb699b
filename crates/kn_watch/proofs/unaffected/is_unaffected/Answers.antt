use Rattle.std.proofs.Common.{◌≡◌, ℕ, Bool, true, List, length, sym, subst}
use Rattle.std.proofs.lemmas.Result.{IfOk-weaker}
use Rattle.kn_system.specs.Equations.{SystemEquations, row_at}
use Rattle.kn_watch.specs.Affected.{HasUsers, IsSubset}
use Rattle.kn_watch.specs.Found.{AreFewFound, flags_of}
use Rattle.kn_watch.specs.Unaffected.{IsFewWithout, IsKnown, IsUnaffected}
use Rattle.kn_watch.proofs.FlaggedLists.{none-subset}
use Rattle.kn_watch.proofs.FewFound.{few-kept, few-none}
use Rattle.kn_watch.proofs.unaffected.is_unaffected.Goals as goal

pub add_authorizers-requires-clause-found : goal.add_authorizers-requires-clause-found
add_authorizers-requires-clause-found g c =
    subst (AreFewFound c.args.system.now c.args.principal c.args.most) (sym c.new-found.ensures)
    (few-none c.args.system.now c.args.principal c.args.most)

pub returns-clause-unaffected : goal.returns-clause-unaffected
returns-clause-unaffected g c =
    let s : SystemEquations = c.args.system.now in
    let found : List ℕ = c.add_authorizers.new.found in
    let more : List ℕ = c.add_all_users.new.found in
    let kept : IsSubset (flags_of s found) (flags_of s more) =
    few-kept s c.args.principal c.args.most found more c.add_authorizers.ensures.found c.add_all_users.ensures.found
    c.add_all_users.ensures.front in
    IfOk-weaker c.add_all_users.result (λ done. done ≡ true → HasUsers s (flags_of s more))
    (λ known. known ≡ true → IsUnaffected s c.args.rows.now c.args.principal)
    (λ known users is. record {
      affected = flags_of s more;
      has_rows = λ i row e. kept (row_at s.rows row).authorizer
          (c.in_ok-add_authorizers.ensures.there c.if-not-branch.false i row e);
      users = users is;
      without = c.add_all_users.ensures.found.lacks;
    }) c.add_all_users.ensures.users

pub returns-clause-known : goal.returns-clause-known
returns-clause-known g c =
    let s : SystemEquations = c.args.system.now in
    let found : List ℕ = c.add_authorizers.new.found in
    IfOk-weaker c.add_all_users.result
    (λ known. (others : List Bool) → HasUsers s others → IsSubset (flags_of s found) others
    → IsFewWithout c.args.principal c.args.most others → known ≡ true)
    (IsKnown s c.args.rows.now c.args.principal c.args.most)
    (λ known h affected rows users lacks few.
    let none : IsSubset (flags_of s c.new-found.result) affected =
    subst (λ ps. IsSubset (flags_of s ps) affected) (sym c.new-found.ensures)
    (none-subset (length s.requesters) affected) in
    h affected users (c.add_authorizers.ensures.within affected rows none)
    (record { few = few; lacks = lacks })) c.add_all_users.ensures.known
