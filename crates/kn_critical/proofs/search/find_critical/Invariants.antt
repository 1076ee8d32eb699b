use Rattle.kn_answer.specs.Based.{condition_values}
use Rattle.kn_critical.proofs.search.find_critical.Given as goal

abbrev pub ghosts-search : goal.ghosts-search
ghosts-search a = record { values = condition_values a.query.now a.list.now }
