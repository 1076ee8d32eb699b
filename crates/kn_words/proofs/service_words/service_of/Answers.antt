use Rattle.std.proofs.Common.{◌≡◌, subst, map, [], true}
use Rattle.std.proofs.lemmas.Option.{IfSome_then}
use Rattle.clap.specs.Words.{App, HasMatchesOf, fault_of, is_simple_and_free}
use Rattle.kn_words.proofs.ClapLaws.{serve_app_is_free, words_taken, words_without_service, if_none_then}
use Rattle.kn_words.proofs.service_words.service_of.Goals as goal

pub returns-in-Ok-try_get_matches_from-clause-some : goal.returns-in-Ok-try_get_matches_from-clause-some
returns-in-Ok-try_get_matches_from-clause-some c =
    let words = map (λ w. w.now) c.args.words.now in
    let matches = subst (λ (a : App). HasMatchesOf a words c.in-Ok-try_get_matches_from.matches) c.in-Ok.ensures
    c.in-Ok-try_get_matches_from.ensures.matches in
    let taken = subst (λ (a : App). is_simple_and_free a ≡ true → fault_of a words ≡ []) c.in-Ok.ensures
    c.in-Ok-try_get_matches_from.ensures.kinds serve_app_is_free in
    IfSome_then c.service_in.result c.service_in.ensures.some (λ order values. words_taken words
    c.in-Ok-try_get_matches_from.matches order c.requires.serve c.requires.texts matches taken values)

pub returns-in-Ok-try_get_matches_from-clause-none : goal.returns-in-Ok-try_get_matches_from-clause-none
returns-in-Ok-try_get_matches_from-clause-none c =
    let words = map (λ w. w.now) c.args.words.now in
    let matches = subst (λ (a : App). HasMatchesOf a words c.in-Ok-try_get_matches_from.matches) c.in-Ok.ensures
    c.in-Ok-try_get_matches_from.ensures.matches in
    if_none_then c.service_in.result (words_without_service words c.in-Ok-try_get_matches_from.matches matches)
    c.service_in.ensures.none
