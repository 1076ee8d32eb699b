use Rattle.std.proofs.Common.{◌≡◌, ℕ, true, false, List, nat_eq, sym, ap, ◌∙◌, subst, arith}
use Rattle.std.specs.List.{list_any}
use Rattle.kn_system.specs.Equations.{SystemEquations}
use Rattle.kn_watch.specs.Affected.{IsSubset, is_affected}
use Rattle.kn_watch.specs.Found.{AreFewFound, flags_of}
use Rattle.kn_watch.proofs.FewFound.{few-full, few-next, few-there, few-within, looked-new, looked-there}
use Rattle.kn_watch.proofs.unaffected.Search.add_authorizer.Goals as goal

pub returns-then-contains-clause-there : goal.returns-then-contains-clause-there
returns-then-contains-clause-there g c = λ _.
    let s : SystemEquations = c.args.system.now in
    let found : List ℕ = c.args.found.now in
    let a : ℕ = c.authorizer-authorizer.result in
    let test : list_any (λ q. nat_eq q a) found ≡ true = ap (list_any (λ q. nat_eq q a)) (sym c.as_slice.ensures)
    ∙ sym c.contains.ensures.value ∙ c.if-contains.true in
    ap (is_affected (flags_of s found)) (sym c.authorizer-authorizer.ensures.exact)
    ∙ looked-there (flags_of s found) found a c.requires.found.each test

pub returns-then-len-self-clause-known : goal.returns-then-len-self-clause-known
returns-then-len-self-clause-known g c = λ others is among few.
    let s : SystemEquations = c.args.system.now in
    let found : List ℕ = c.args.found.now in
    let a : ℕ = c.authorizer-authorizer.result in
    let test : list_any (λ q. nat_eq q a) found ≡ false = ap (list_any (λ q. nat_eq q a)) (sym c.as_slice.ensures)
    ∙ sym c.contains.ensures.value ∙ c.if-contains.false in
    absurd
    (few-full s c.args.self.now.without c.args.self.now.most a found others c.authorizer-authorizer.ensures.in_range
    (looked-new (flags_of s found) found a c.requires.found.each test)
    (omega (arith, c.len.ensures, c.if-len-self.true)) c.requires.found
    (ap (is_affected others) c.authorizer-authorizer.ensures.exact ∙ is) among few)

pub returns-clause-found : goal.returns-clause-found
returns-clause-found g c =
    let s : SystemEquations = c.args.system.now in
    let found : List ℕ = c.args.found.now in
    let a : ℕ = c.authorizer-authorizer.result in
    let test : list_any (λ q. nat_eq q a) found ≡ false = ap (list_any (λ q. nat_eq q a)) (sym c.as_slice.ensures)
    ∙ sym c.contains.ensures.value ∙ c.if-contains.false in
    subst (AreFewFound s c.args.self.now.without c.args.self.now.most) (sym c.in_ok-add.ensures.ok)
    (few-next s c.args.self.now.without c.args.self.now.most a found c.authorizer-authorizer.ensures.in_range
    c.if-authorizer-self.false (looked-new (flags_of s found) found a c.requires.found.each test)
    (omega (arith, c.len.ensures, c.if-len-self.false)) c.requires.found)

pub returns-clause-there : goal.returns-clause-there
returns-clause-there g c = λ _.
    let s : SystemEquations = c.args.system.now in
    let a : ℕ = c.authorizer-authorizer.result in
    ap (is_affected (flags_of s c.add.new.self)) (sym c.authorizer-authorizer.ensures.exact)
    ∙ ap (λ ps. is_affected (flags_of s ps) a) c.in_ok-add.ensures.ok
    ∙ few-there s a c.args.found.now c.authorizer-authorizer.ensures.in_range

pub returns-clause-within : goal.returns-clause-within
returns-clause-within g c = λ others is among.
    let s : SystemEquations = c.args.system.now in
    let a : ℕ = c.authorizer-authorizer.result in
    subst (λ ps. IsSubset (flags_of s ps) others) (sym c.in_ok-add.ensures.ok)
    (few-within s a c.args.found.now others (ap (is_affected others) c.authorizer-authorizer.ensures.exact ∙ is) among)
