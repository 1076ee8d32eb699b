-- A replica to which the replies over a history are applied holds its first updates.
use Rattle.std.proofs.Common.{◌≡◌, ℕ, zero, suc, ◌+◌, ◌-◌, ◌≤◌, true, List, [], ◌∷◌, ◌++◌, length, take, drop, map}
use Rattle.std.proofs.Common.{refl, sym, ap, ◌∙◌, subst, append_assoc, append-nil, take-append-drop, codes, decimal}
use Rattle.std.proofs.Common.{arith}
use Rattle.std.specs.Prelude.{flat_map}
use Rattle.std.specs.List.{AllByRecursion}
use Rattle.std.proofs.lemmas.Bool.{and_parts, and_from}
use Rattle.std.proofs.lemmas.List.{length-map, length-take, length-drop, length-take-le, take-append-le}
use Rattle.kn_history.specs.declared.update.Change.{Change}
use Rattle.kn_history.specs.declared.update.Change.TheVariants.{Add, Remove}
use Rattle.kn_history.specs.declared.update.Numbered.{Numbered}
use Rattle.kn_history.specs.declared.update.Update.{Update}
use Rattle.kn_history.specs.History.{all_changes, additions, update_may_follow, updates_may_follow, is_valid_history}
use Rattle.kn_history.specs.Batches.{item_in, items_in, batch_by}
use Rattle.kn_history.proofs.Batches.{items-determine}
use Rattle.kn_history.proofs.Histories.{changes-push}
use Rattle.kn_wire.specs.Items.{item_text}
use Rattle.kn_reply.specs.Logs.{log_part, log_text, item_of, item_of_change, update_text, change_text, held_after}
use Rattle.kn_reply.proofs.Logs.{front-of, logs-are_a_beginning}
use Rattle.kn_follow.specs.Forms.{LogReply, received_update, received_text, form_text, IsTellable, IsLogText}
use Rattle.kn_follow.specs.Following.{Takes, update_behind, IsApplied, Applies}
use Rattle.kn_follow.specs.Laws.{TakenInOneWay, IsShort, log_replies, MayAskAt, FollowersFollow}
use Rattle.kn_follow.proofs.Replies.{one-reading}
use Rattle.kn_follow.proofs.Takings.{one_taking}

-- What a reply tells.

items-text : (changes : List Numbered)
    → flat_map change_text changes ≡ flat_map item_text (map (λ (c : Numbered). item_of_change c.change c.id) changes)
items-text [] = refl
items-text (c ∷ changes) = ap (λ l. item_text (item_of_change c.change c.id) ++ l) (items-text changes)

update-same : (u : Update) → update_text u ≡ received_text (received_update u)
update-same u =
    ap (λ l. codes "UPDATE " ++ decimal u.caller ++ 32 ∷ decimal (length u.changes) ++ 10 ∷ l) (items-text u.changes)
    ∙ ap (λ (n : ℕ). codes "UPDATE " ++ decimal u.caller ++ 32 ∷ decimal n ++ 10
    ∷ flat_map item_text (map (λ (c : Numbered). item_of_change c.change c.id) u.changes))
    (sym (length-map u.changes (λ (c : Numbered). item_of_change c.change c.id)))

updates-same : (part : List Update) → flat_map update_text part ≡ flat_map received_text (map received_update part)
updates-same [] = refl
updates-same (u ∷ part) = ap (λ l. l ++ flat_map update_text part) (update-same u)
    ∙ ap (λ l. received_text (received_update u) ++ l) (updates-same part)

-- the reply to a client that holds n updates of a history
abbrev reply_over : ℕ → List Update → LogReply
reply_over n history = record { from = n; place = length history; updates = map received_update (log_part n history) }

text-same : (n : ℕ) (history : List Update) → log_text n history ≡ form_text (reply_over n history)
text-same n history =
    ap (λ l. codes "LOG " ++ decimal n ++ 32 ∷ decimal (length (log_part n history)) ++ 32 ∷ decimal (length history)
    ++ 10 ∷ l ++ codes "END\n") (updates-same (log_part n history))
    ∙ ap (λ (k : ℕ). codes "LOG " ++ decimal n ++ 32 ∷ decimal k ++ 32 ∷ decimal (length history) ++ 10
    ∷ flat_map received_text (map received_update (log_part n history)) ++ codes "END\n")
    (sym (length-map (log_part n history) received_update))

all-drop : (n : ℕ) (us : List Update) → AllByRecursion IsTellable (map received_update us)
    → AllByRecursion IsTellable (map received_update (drop n us))
all-drop zero us all = all
all-drop (suc n) [] all = tt
all-drop (suc n) (u ∷ us) all = all-drop n us all.1

all-take : (n : ℕ) (us : List Update) → AllByRecursion IsTellable (map received_update us)
    → AllByRecursion IsTellable (map received_update (take n us))
all-take zero us all = tt
all-take (suc n) [] all = tt
all-take (suc n) (u ∷ us) all = (all.0, all-take n us all.1)

is-reply : (n : ℕ) (history : List Update) → n ≤ length history → IsShort history
    → IsLogText (log_text n history) (reply_over n history)
is-reply n history within short =
    let few = short.count in
    let size = length-map (log_part n history) received_update in
    let taken = length-take 16 (drop n history) in
    let left = length-drop n history in
    record {
      form = record {
        behind = within;
        short = few;
        count = omega (arith, size, taken, left);
        each =
            all-take 16 (drop n history) (all-drop n history short.each);
      };
      same = text-same n history;
    }

short-front : (place : ℕ) (history : List Update) → IsShort history → IsShort (take place history)
short-front place history short =
    let few = short.count in
    let size = length-take place history in
    record { count = omega (arith, few, size); each = all-take place history short.each }

-- What is taken of it.

item-same : (change : Change) (id : ℕ) → item_of (item_of_change change id) ≡ item_in change id
item-same (Add text) id = refl
item-same Remove id = refl

items-same : (changes : List Numbered) → map item_of (map (λ (c : Numbered). item_of_change c.change c.id) changes)
    ≡ items_in changes
items-same [] = refl
items-same (c ∷ changes) =
    ap (λ i. i ∷ map item_of (map (λ (c : Numbered). item_of_change c.change c.id) changes)) (item-same c.change c.id)
    ∙ ap (λ l. item_in c.change c.id ∷ l) (items-same changes)

behind-same : (past : List Update) (u : Update) → update_may_follow (all_changes past) u ≡ true
    → update_behind past (received_update u) ≡ u
behind-same past u follows =
    ap (batch_by u.caller (additions (all_changes past) + 1)) (items-same u.changes)
    ∙ sym (items-determine (all_changes past) u follows)

takes-part : (past part : List Update) → updates_may_follow (all_changes past) part ≡ true
    → Takes past (map received_update part) (past ++ part)
takes-part past [] follow = append-nil past
takes-part past (u ∷ part) follow =
    let parts = and_parts (update_may_follow (all_changes past) u)
    (updates_may_follow (all_changes past ++ u.changes) part) follow in
    let same = behind-same past u parts.0 in
    let more = takes-part (past ++ u ∷ []) part
    (subst (λ l. updates_may_follow l part ≡ true) (sym (changes-push past u)) parts.1) in (
      subst (λ v. update_may_follow (all_changes past) v ≡ true) (sym same) parts.0,
      subst (λ v. Takes (past ++ v ∷ []) (map received_update part) (past ++ u ∷ part)) (sym same)
          (subst (Takes (past ++ u ∷ []) (map received_update part)) (append_assoc past (u ∷ []) part) more),
    )

follow-front : (past : List Numbered) (front back : List Update) → updates_may_follow past (front ++ back) ≡ true
    → updates_may_follow past front ≡ true
follow-front past [] back follow = refl
follow-front past (u ∷ front) back follow =
    let parts = and_parts (update_may_follow past u) (updates_may_follow (past ++ u.changes) (front ++ back)) follow in
    and_from (update_may_follow past u) (updates_may_follow (past ++ u.changes) front) parts.0
    (follow-front (past ++ u.changes) front back parts.1)

follow-back : (past : List Numbered) (front back : List Update) → updates_may_follow past (front ++ back) ≡ true
    → updates_may_follow (past ++ all_changes front) back ≡ true
follow-back past [] back follow = subst (λ l. updates_may_follow l back ≡ true) (sym (append-nil past)) follow
follow-back past (u ∷ front) back follow =
    let parts = and_parts (update_may_follow past u) (updates_may_follow (past ++ u.changes) (front ++ back)) follow in
    subst (λ l. updates_may_follow l back ≡ true) (append_assoc past u.changes (all_changes front))
    (follow-back (past ++ u.changes) front back parts.1)

-- the next part of a history behind the updates that are held
record NextPart (history held : List Update) (place : ℕ) : Type 0 where
  pub later : List Update
  pub whole : (held ++ log_part (length held) (take place history)) ++ later ≡ history
  pub follow : updates_may_follow (all_changes held) (log_part (length held) (take place history)) ≡ true

next-of : (held rest : List Update) (place : ℕ) → is_valid_history (held ++ rest) ≡ true
    → NextPart (held ++ rest) held place
next-of held rest place valid =
    let seen = drop (length held) (take place (held ++ rest)) in
    let part = log_part (length held) (take place (held ++ rest)) in
    let behind = drop (place - length held) rest in
    let split : rest ≡ part ++ (drop 16 seen ++ behind) = sym (front-of held rest place)
    ∙ ap (λ l. l ++ behind) (sym (take-append-drop 16 seen)) ∙ append_assoc part (drop 16 seen) behind in
    let follow = subst (λ l. updates_may_follow (all_changes held) l ≡ true) split (follow-back [] held rest valid) in
    record {
      later = drop 16 seen ++ behind;
      whole = append_assoc held part (drop 16 seen ++ behind) ∙ ap (λ l. held ++ l) (sym split);
      follow = follow-front (all_changes held) part (drop 16 seen ++ behind) follow;
    }

next-part : (history held rest : List Update) (place : ℕ) → held ++ rest ≡ history → is_valid_history history ≡ true
    → NextPart history held place
next-part history held rest place whole valid =
    subst (λ h. NextPart h held place) whole (next-of held rest place (ap is_valid_history whole ∙ valid))

one-applied : (history held rest : List Update) (place : ℕ) → held ++ rest ≡ history → is_valid_history history ≡ true
    → IsShort history → length held ≤ place → place ≤ length history
    → IsApplied held (log_text (length held) (take place history))
    (length (map received_update (log_part (length held) (take place history))))
    (held ++ log_part (length held) (take place history))
one-applied history held rest place whole valid short from to =
    let next = next-part history held rest place whole valid in
    let size = length-take-le place history to in
    record {
      reply = reply_over (length held) (take place history);
      form = is-reply (length held) (take place history) (omega (arith, size, from)) (short-front place history short);
      taken = record {
        here = refl;
        takes = takes-part held (log_part (length held) (take place history)) next.follow;
        number = refl;
      };
    }

all-applied : (history held rest : List Update) (places : List ℕ) → held ++ rest ≡ history
    → is_valid_history history ≡ true → IsShort history → MayAskAt history held places
    → Applies held (log_replies history held places) (held_after history held places)
all-applied history held rest [] whole valid short may = refl
all-applied history held rest (place ∷ places) whole valid short may =
    let part = log_part (length held) (take place history) in
    let next = next-part history held rest place whole valid in (
      length (map received_update part),
      held ++ part,
      one-applied history held rest place whole valid short may.0 may.1,
      all-applied history (held ++ part) next.later places next.whole valid short may.2,
    )

-- Replies are applied in one way.

pub taken-in_one_way : TakenInOneWay
taken-in_one_way text old new other count number is also =
    let same = (one-reading text).one_reply is.reply also.reply is.form also.form in (
      one_taking old also.reply.updates new other
          (subst (λ (r : LogReply). Takes old r.updates new) same is.taken.takes) also.taken.takes,
      is.taken.number ∙ ap (λ (r : LogReply). length r.updates) same ∙ sym also.taken.number,
    )

applied-alone : (old : List Update) (texts : List (List ℕ)) (new other : List Update) → Applies old texts new
    → Applies old texts other → new ≡ other
applied-alone old [] new other is also = is ∙ sym also
applied-alone old (text ∷ texts) new other is also =
    let same = (taken-in_one_way text old is.1 also.1 is.0 also.0 is.2 also.2).0 in
    applied-alone also.1 texts new other (subst (λ m. Applies m texts new) same is.3) also.3

pub followers-follow : FollowersFollow
followers-follow history places valid short may =
    let applied = all-applied history [] history places refl valid short may in
    let begins = logs-are_a_beginning history places in
    record {
      applied = applied;
      alone = λ new is. applied-alone [] (log_replies history [] places) new (held_after history [] places) is applied;
      same_versions = λ number within. sym (ap (take number) begins.whole
          ∙ take-append-le number (held_after history [] places) begins.rest within);
    }
