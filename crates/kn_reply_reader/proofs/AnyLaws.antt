-- The text of some reply at the front of bytes, kind by kind.
use Rattle.std.proofs.Common.{◌≡◌, ℕ, Bool, List, ◌++◌, Option, Some, None, refl, sym, ap, ◌∙◌}
use Rattle.std.specs.Prelude.{◌↔◌, IsTrue, is_some, option_map}
use Rattle.std.proofs.lemmas.Bool.{false≢true}
use Rattle.kn_reply.specs.Replies.{reply_text}
use Rattle.kn_reply_reader.specs.Fronts.{IsBehindOne}
use Rattle.kn_reply_reader.specs.Kinds.{Kind, OneLine, Proved, LogKind, NewsKind, CriticalKind, kind_of, IsTextOf}
use Rattle.kn_reply_reader.specs.Kinds.{IsReplyText}
use Rattle.kn_reply_reader.specs.Texts.{BeginsWithReply}

module _ (left : List ℕ) where
  pub any_some : (kind : Kind) (rest : List ℕ) → IsBehindOne (IsTextOf kind) left (Some rest)
      → IsBehindOne IsReplyText left (Some rest)
  any_some kind rest cut = (cut.0, record { reply = cut.1.reply; has = cut.1.has; same = cut.1.same }, cut.2)

  module _ (one_line : IsBehindOne (IsTextOf OneLine) left None) (proved : IsBehindOne (IsTextOf Proved) left None)
      (told : IsBehindOne (IsTextOf NewsKind) left None) (needed : IsBehindOne (IsTextOf CriticalKind) left None) where
    any_none : IsBehindOne (IsTextOf LogKind) left None → IsBehindOne IsReplyText left None
    any_none logged text rest is e = go (kind_of is.reply) refl
      where
        go : (kind : Kind) → kind_of is.reply ≡ kind → ⊥
        go OneLine same = one_line text rest (record { reply = is.reply; has = is.has; is = same; same = is.same }) e
        go Proved same = proved text rest (record { reply = is.reply; has = is.has; is = same; same = is.same }) e
        go NewsKind same = told text rest (record { reply = is.reply; has = is.has; is = same; same = is.same }) e
        go CriticalKind same = needed text rest (record { reply = is.reply; has = is.has; is = same; same = is.same }) e
        go LogKind same = logged text rest (record { reply = is.reply; has = is.has; is = same; same = is.same }) e

    pub any_last : (found : Option (List ℕ)) → IsBehindOne (IsTextOf LogKind) left found
        → IsBehindOne IsReplyText left found
    any_last None none = any_none none
    any_last (Some rest) cut = any_some LogKind rest cut

-- whether some reply's text is there
pub begins : {X : Type 0} (view : X → List ℕ) (left : List ℕ) (found : Option X) (result : Bool)
    → result ≡ is_some found
    → IsBehindOne IsReplyText left (option_map view found) → IsTrue result ↔ BeginsWithReply left
begins view left None result same none = (
  λ yes. absurd (false≢true (sym same ∙ yes)),
  λ has. absurd (none (reply_text has.0) has.1.more (record { reply = has.0; has = has.1.text; same = refl })
      has.1.cut),
)
begins view left (Some x) result same cut = (
  λ yes. (
    cut.1.reply,
    record { more = view x; text = cut.1.has; cut = cut.2 ∙ ap (λ (l : List ℕ). l ++ view x) cut.1.same },
  ),
  λ has. same,
)
