use Rattle.std.specs.Prelude.{option_map}
use Rattle.kn_reply_reader.specs.Kinds.{OneLine, Proved, NewsKind, CriticalKind}
use Rattle.kn_reply_reader.proofs.AnyLaws.{any_last, any_some}
use Rattle.kn_reply_reader.proofs.replies.behind_any_reply.Goals as goal

pub returns-in-Some : goal.returns-in-Some
returns-in-Some c = any_some c.args.left.now OneLine c.in-Some.rest.now c.in-Some.ensures

pub returns-in-Some-behind_value : goal.returns-in-Some-behind_value
returns-in-Some-behind_value c =
    any_some c.args.left.now Proved c.in-Some-behind_value.rest.now c.in-Some-behind_value.ensures

pub returns-in-Some-behind_news : goal.returns-in-Some-behind_news
returns-in-Some-behind_news c =
    any_some c.args.left.now NewsKind c.in-Some-behind_news.rest.now c.in-Some-behind_news.ensures

pub returns-in-Some-behind_critical : goal.returns-in-Some-behind_critical
returns-in-Some-behind_critical c =
    any_some c.args.left.now CriticalKind c.in-Some-behind_critical.rest.now c.in-Some-behind_critical.ensures

pub returns : goal.returns
returns c =
    any_last c.args.left.now c.in_default.ensures c.in_default-behind_value.ensures c.in_default-behind_news.ensures
    c.in_default-behind_critical.ensures
    (option_map (λ rest. rest.now) c.behind_log.result) c.behind_log.ensures
