-- Replies of one line without a name: each form is that of a reply with any numbers, and each such reply has one.
use Rattle.std.proofs.Common.{◌≡◌, ℕ, zero, suc, List, [], ◌∷◌, ◌++◌, codes, drop, map, get_or, decimal, Some, refl}
use Rattle.std.proofs.Common.{sym, ap, ◌∙◌, subst, inl, inr, append_assoc}
use Rattle.std.specs.Prelude.{slice_get}
use Rattle.std.proofs.lemmas.Option.{none-some, same_Some}
use Rattle.kn_reply.specs.declared.refusal.Refusal.{Refusal}
use Rattle.kn_reply.specs.declared.refusal.Refusal.TheVariants as R
use Rattle.kn_reply.specs.declared.refusal.ItemRefusal.{ItemRefusal}
use Rattle.kn_reply.specs.declared.refusal.ItemRefusal.TheVariants as I
use Rattle.kn_reply.specs.declared.refusal.LimitWord.{LimitWord}
use Rattle.kn_reply.specs.declared.refusal.LimitWord.TheVariants as W
use Rattle.kn_reply.specs.Replies.{Reply, Done, Started, Number, PrivateAdded, Added, Value, Batched, PinnedAt, Log}
use Rattle.kn_reply.specs.Replies.{News, Critical, No, NoMemory, reply_text}
use Rattle.kn_reply_reader.specs.Texts.{HasText}
use Rattle.kn_reply_reader.specs.Forms.{fill_form, IsOfOneForm}
use Rattle.kn_reply_reader.specs.OneLineForms.{one_line_forms}
use Rattle.kn_reply_reader.specs.Kinds.{OneLine, IsTextOf, kind_of}

-- texts one behind the other
two : (a b end : List ℕ) → a ++ (b ++ end) ≡ (a ++ b) ++ end
two a b end = sym (append_assoc a b end)

three : (a b c end : List ℕ) → a ++ (b ++ (c ++ end)) ≡ ((a ++ b) ++ c) ++ end
three a b c end = two a b (c ++ end) ∙ two (a ++ b) c end

-- the first three numbers of a form
abbrev n0 : List ℕ → ℕ
n0 ns = get_or ns 0 0

abbrev n1 : List ℕ → ℕ
n1 ns = get_or (drop 1 ns) 0 0

abbrev n2 : List ℕ → ℕ
n2 ns = get_or (drop 1 (drop 1 ns)) 0 0

-- a reply whose text is the form with these numbers
pub record IsTold (form ns : List ℕ) : Type 0 where
  pub reply : Reply
  pub text : HasText reply
  pub one : kind_of reply ≡ OneLine
  pub same : fill_form form ns ≡ reply_text reply

abbrev AreTold : List ℕ → Type 0
AreTold form = (ns : List ℕ) → IsTold form ns

-- a form, and that it is told
record Entry : Type 0 where
  form : List ℕ
  exact : AreTold form

abbrev entry : (form : List ℕ) → AreTold form → Entry
entry form told = record { form = form; exact = told }

abbrev form_of : Entry → List ℕ
form_of e = e.form

abbrev entries : List Entry
entries =
    entry (codes "OK\n") (λ ns. record { reply = Done; text = tt; one = refl; same = refl })
    ∷ entry (codes "OK # #\n")
    (λ ns. record {
      reply = Started (n0 ns) (n1 ns);
      text = tt;
      one = refl;
      same =
          ap (λ (l : List ℕ). codes "OK " ++ l) (two (decimal (n0 ns)) (32 ∷ decimal (n1 ns)) (10 ∷ []));
    })
    ∷ entry (codes "OK #\n") (λ ns. record { reply = Number (n0 ns); text = tt; one = refl; same = refl })
    ∷ entry (codes "OK p#\n") (λ ns. record { reply = PrivateAdded (n0 ns); text = tt; one = refl; same = refl })
    ∷ entry (codes "OK a# #\n")
    (λ ns. record {
      reply = Added (n0 ns) (n1 ns);
      text = tt;
      one = refl;
      same =
          ap (λ (l : List ℕ). codes "OK a" ++ l) (two (decimal (n0 ns)) (32 ∷ decimal (n1 ns)) (10 ∷ []));
    })
    ∷ entry (codes "OK a# # #\n")
    (λ ns. record {
      reply = Batched (n0 ns) (n1 ns) (n2 ns);
      text = tt;
      one = refl;
      same =
          ap (λ (l : List ℕ). codes "OK a" ++ l)
          (three (decimal (n0 ns)) (32 ∷ decimal (n1 ns)) (32 ∷ decimal (n2 ns)) (10 ∷ []));
    })
    ∷ entry (codes "NO 1 syntax\n") (λ ns. record { reply = No R.Syntax; text = tt; one = refl; same = refl })
    ∷ entry (codes "NO 2 command\n") (λ ns. record { reply = No R.Command; text = tt; one = refl; same = refl })
    ∷ entry (codes "NO 3 session\n") (λ ns. record { reply = No R.Session; text = tt; one = refl; same = refl })
    ∷ entry (codes "NO 4 admin\n") (λ ns. record { reply = No R.Admin; text = tt; one = refl; same = refl })
    ∷ entry (codes "NO 5 read # #\n")
    (λ ns. record {
      reply = No (R.Read (n0 ns) (n1 ns));
      text = tt;
      one = refl;
      same =
          ap (λ (l : List ℕ). codes "NO 5 read " ++ l) (two (decimal (n0 ns)) (32 ∷ decimal (n1 ns)) (10 ∷ []));
    })
    ∷ entry (codes "NO 6 policy\n") (λ ns. record { reply = No R.Policy; text = tt; one = refl; same = refl })
    ∷ entry (codes "NO 7 auth #\n") (λ ns. record { reply = No (R.Auth (n0 ns)); text = tt; one = refl; same = refl })
    ∷ entry (codes "NO 8 name\n") (λ ns. record { reply = No R.Name; text = tt; one = refl; same = refl })
    ∷ entry (codes "NO 9 value\n") (λ ns. record { reply = No R.Value; text = tt; one = refl; same = refl })
    ∷ entry (codes "NO 10 values\n") (λ ns. record { reply = No R.Values; text = tt; one = refl; same = refl })
    ∷ entry (codes "NO 11 principal\n") (λ ns. record { reply = No R.Principal; text = tt; one = refl; same = refl })
    ∷ entry (codes "NO 12 unknown\n") (λ ns. record { reply = No R.Unknown; text = tt; one = refl; same = refl })
    ∷ entry (codes "NO 13 limit sessions #\n")
    (λ ns. record { reply = No (R.Limit W.Sessions (n0 ns)); text = tt; one = refl; same = refl })
    ∷ entry (codes "NO 13 limit private #\n")
    (λ ns. record { reply = No (R.Limit W.Private (n0 ns)); text = tt; one = refl; same = refl })
    ∷ entry (codes "NO 13 limit private-bytes #\n")
    (λ ns. record { reply = No (R.Limit W.PrivateBytes (n0 ns)); text = tt; one = refl; same = refl })
    ∷ entry (codes "NO 13 limit requesters #\n")
    (λ ns. record { reply = No (R.Limit W.Requesters (n0 ns)); text = tt; one = refl; same = refl })
    ∷ entry (codes "NO 13 limit attributes #\n")
    (λ ns. record { reply = No (R.Limit W.Attributes (n0 ns)); text = tt; one = refl; same = refl })
    ∷ entry (codes "NO 13 limit live #\n")
    (λ ns. record { reply = No (R.Limit W.Live (n0 ns)); text = tt; one = refl; same = refl })
    ∷ entry (codes "NO 13 limit live-bytes #\n")
    (λ ns. record { reply = No (R.Limit W.LiveBytes (n0 ns)); text = tt; one = refl; same = refl })
    ∷ entry (codes "NO 13 limit updates #\n")
    (λ ns. record { reply = No (R.Limit W.Updates (n0 ns)); text = tt; one = refl; same = refl })
    ∷ entry (codes "NO 13 limit log-bytes #\n")
    (λ ns. record { reply = No (R.Limit W.LogBytes (n0 ns)); text = tt; one = refl; same = refl })
    ∷ entry (codes "NO 13 limit nodes #\n")
    (λ ns. record { reply = No (R.Limit W.Nodes (n0 ns)); text = tt; one = refl; same = refl })
    ∷ entry (codes "NO 14 long\n") (λ ns. record { reply = No R.Long; text = tt; one = refl; same = refl })
    ∷ entry (codes "NO 15 block\n") (λ ns. record { reply = No R.Block; text = tt; one = refl; same = refl })
    ∷ entry (codes "NO 16 batch #\n")
    (λ ns. record { reply = No (R.Batch (n0 ns)); text = tt; one = refl; same = refl })
    ∷ entry (codes "NO 17 item # 5 read # #\n")
    (λ ns. record {
      reply = No (R.Item (n0 ns) (I.Read (n1 ns) (n2 ns)));
      text = tt;
      one = refl;
      same =
          ap (λ (l : List ℕ). codes "NO 17 item " ++ l)
          (ap (λ (l : List ℕ). decimal (n0 ns) ++ 32 ∷ (codes "5 read " ++ l))
          (two (decimal (n1 ns)) (32 ∷ decimal (n2 ns)) (10 ∷ []))
          ∙ two (decimal (n0 ns)) (32 ∷ (codes "5 read " ++ decimal (n1 ns) ++ 32 ∷ decimal (n2 ns))) (10 ∷ []));
    })
    ∷ entry (codes "NO 17 item # 7 auth #\n")
    (λ ns. record {
      reply = No (R.Item (n0 ns) (I.Auth (n1 ns)));
      text = tt;
      one = refl;
      same =
          ap (λ (l : List ℕ). codes "NO 17 item " ++ l)
          (two (decimal (n0 ns)) (codes " 7 auth " ++ decimal (n1 ns)) (10 ∷ []));
    })
    ∷ entry (codes "NO 17 item # 12 unknown\n")
    (λ ns. record {
      reply = No (R.Item (n0 ns) I.Unknown);
      text = tt;
      one = refl;
      same =
          ap (λ (l : List ℕ). codes "NO 17 item " ++ l) (two (decimal (n0 ns)) (codes " 12 unknown") (10 ∷ []));
    })
    ∷ entry (codes "NO 17 item # 13 limit sessions #\n")
    (λ ns. record {
      reply = No (R.Item (n0 ns) (I.Limit W.Sessions (n1 ns)));
      text = tt;
      one = refl;
      same =
          ap (λ (l : List ℕ). codes "NO 17 item " ++ l)
          (two (decimal (n0 ns)) (codes " 13 limit sessions " ++ decimal (n1 ns)) (10 ∷ []));
    })
    ∷ entry (codes "NO 17 item # 13 limit private #\n")
    (λ ns. record {
      reply = No (R.Item (n0 ns) (I.Limit W.Private (n1 ns)));
      text = tt;
      one = refl;
      same =
          ap (λ (l : List ℕ). codes "NO 17 item " ++ l)
          (two (decimal (n0 ns)) (codes " 13 limit private " ++ decimal (n1 ns)) (10 ∷ []));
    })
    ∷ entry (codes "NO 17 item # 13 limit private-bytes #\n")
    (λ ns. record {
      reply = No (R.Item (n0 ns) (I.Limit W.PrivateBytes (n1 ns)));
      text = tt;
      one = refl;
      same =
          ap (λ (l : List ℕ). codes "NO 17 item " ++ l)
          (two (decimal (n0 ns)) (codes " 13 limit private-bytes " ++ decimal (n1 ns)) (10 ∷ []));
    })
    ∷ entry (codes "NO 17 item # 13 limit requesters #\n")
    (λ ns. record {
      reply = No (R.Item (n0 ns) (I.Limit W.Requesters (n1 ns)));
      text = tt;
      one = refl;
      same =
          ap (λ (l : List ℕ). codes "NO 17 item " ++ l)
          (two (decimal (n0 ns)) (codes " 13 limit requesters " ++ decimal (n1 ns)) (10 ∷ []));
    })
    ∷ entry (codes "NO 17 item # 13 limit attributes #\n")
    (λ ns. record {
      reply = No (R.Item (n0 ns) (I.Limit W.Attributes (n1 ns)));
      text = tt;
      one = refl;
      same =
          ap (λ (l : List ℕ). codes "NO 17 item " ++ l)
          (two (decimal (n0 ns)) (codes " 13 limit attributes " ++ decimal (n1 ns)) (10 ∷ []));
    })
    ∷ entry (codes "NO 17 item # 13 limit live #\n")
    (λ ns. record {
      reply = No (R.Item (n0 ns) (I.Limit W.Live (n1 ns)));
      text = tt;
      one = refl;
      same =
          ap (λ (l : List ℕ). codes "NO 17 item " ++ l)
          (two (decimal (n0 ns)) (codes " 13 limit live " ++ decimal (n1 ns)) (10 ∷ []));
    })
    ∷ entry (codes "NO 17 item # 13 limit live-bytes #\n")
    (λ ns. record {
      reply = No (R.Item (n0 ns) (I.Limit W.LiveBytes (n1 ns)));
      text = tt;
      one = refl;
      same =
          ap (λ (l : List ℕ). codes "NO 17 item " ++ l)
          (two (decimal (n0 ns)) (codes " 13 limit live-bytes " ++ decimal (n1 ns)) (10 ∷ []));
    })
    ∷ entry (codes "NO 17 item # 13 limit updates #\n")
    (λ ns. record {
      reply = No (R.Item (n0 ns) (I.Limit W.Updates (n1 ns)));
      text = tt;
      one = refl;
      same =
          ap (λ (l : List ℕ). codes "NO 17 item " ++ l)
          (two (decimal (n0 ns)) (codes " 13 limit updates " ++ decimal (n1 ns)) (10 ∷ []));
    })
    ∷ entry (codes "NO 17 item # 13 limit log-bytes #\n")
    (λ ns. record {
      reply = No (R.Item (n0 ns) (I.Limit W.LogBytes (n1 ns)));
      text = tt;
      one = refl;
      same =
          ap (λ (l : List ℕ). codes "NO 17 item " ++ l)
          (two (decimal (n0 ns)) (codes " 13 limit log-bytes " ++ decimal (n1 ns)) (10 ∷ []));
    })
    ∷ entry (codes "NO 17 item # 13 limit nodes #\n")
    (λ ns. record {
      reply = No (R.Item (n0 ns) (I.Limit W.Nodes (n1 ns)));
      text = tt;
      one = refl;
      same =
          ap (λ (l : List ℕ). codes "NO 17 item " ++ l)
          (two (decimal (n0 ns)) (codes " 13 limit nodes " ++ decimal (n1 ns)) (10 ∷ []));
    })
    ∷ entry (codes "NO 18 retained #\n")
    (λ ns. record { reply = No (R.Retained (n0 ns)); text = tt; one = refl; same = refl })
    ∷ entry (codes "NO 19 ahead #\n")
    (λ ns. record { reply = No (R.Ahead (n0 ns)); text = tt; one = refl; same = refl })
    ∷ entry (codes "NOMEM\n") (λ ns. record { reply = NoMemory; text = tt; one = refl; same = refl })
    ∷ []

told_in : (known : List Entry) (text : List ℕ) → IsOfOneForm (map form_of known) text → (form : List ℕ) × (ns : List ℕ)
    × IsTold form ns × (text ≡ fill_form form ns)
told_in [] text is = absurd is
told_in (e ∷ others) text (inl is) = (e.form, is.0, e.exact is.0, is.1)
told_in (e ∷ others) text (inr is) = told_in others text is

pub one_line_from : (text : List ℕ) → IsOfOneForm one_line_forms text → IsTextOf OneLine text
one_line_from text is =
    let found = told_in entries text is in
    record { reply = found.2.reply; has = found.2.text; is = found.2.one; same = found.3 ∙ found.2.same }

-- the form at a place
at_place : (forms : List (List ℕ)) (k : ℕ) (form ns text : List ℕ) → slice_get forms k ≡ Some form
    → text ≡ fill_form form ns → IsOfOneForm forms text
at_place [] k form ns text there same = absurd (none-some form there)
at_place (f ∷ forms) zero form ns text there same =
    inl (ns, same ∙ ap (λ (g : List ℕ). fill_form g ns) (sym (same_Some f form there)))
at_place (f ∷ forms) (suc k) form ns text there same = inr (at_place forms k form ns text there same)

at : (k : ℕ) (form ns : List ℕ) (reply : Reply) → slice_get one_line_forms k ≡ Some form
    → reply_text reply ≡ fill_form form ns
    → IsOfOneForm one_line_forms (reply_text reply)
at k form ns reply there same = at_place one_line_forms k form ns (reply_text reply) there same

limit_form : (word : LimitWord) (count : ℕ) → IsOfOneForm one_line_forms (reply_text (No (R.Limit word count)))
limit_form W.Sessions count = at 18 (codes "NO 13 limit sessions #\n") (count ∷ []) (No (R.Limit W.Sessions count)) refl
    refl
limit_form W.Private count =
    at 19 (codes "NO 13 limit private #\n") (count ∷ []) (No (R.Limit W.Private count)) refl refl
limit_form W.PrivateBytes count =
    at 20 (codes "NO 13 limit private-bytes #\n") (count ∷ []) (No (R.Limit W.PrivateBytes count)) refl refl
limit_form W.Requesters count =
    at 21 (codes "NO 13 limit requesters #\n") (count ∷ []) (No (R.Limit W.Requesters count)) refl refl
limit_form W.Attributes count =
    at 22 (codes "NO 13 limit attributes #\n") (count ∷ []) (No (R.Limit W.Attributes count)) refl refl
limit_form W.Live count = at 23 (codes "NO 13 limit live #\n") (count ∷ []) (No (R.Limit W.Live count)) refl refl
limit_form W.LiveBytes count =
    at 24 (codes "NO 13 limit live-bytes #\n") (count ∷ []) (No (R.Limit W.LiveBytes count)) refl refl
limit_form W.Updates count =
    at 25 (codes "NO 13 limit updates #\n") (count ∷ []) (No (R.Limit W.Updates count)) refl refl
limit_form W.LogBytes count =
    at 26 (codes "NO 13 limit log-bytes #\n") (count ∷ []) (No (R.Limit W.LogBytes count)) refl refl
limit_form W.Nodes count = at 27 (codes "NO 13 limit nodes #\n") (count ∷ []) (No (R.Limit W.Nodes count)) refl refl

item_limit_form : (item : ℕ) (word : LimitWord) (count : ℕ)
    → IsOfOneForm one_line_forms (reply_text (No (R.Item item (I.Limit word count))))
item_limit_form item W.Sessions count =
    at 34 (codes "NO 17 item # 13 limit sessions #\n") (item ∷ count ∷ []) (No (R.Item item (I.Limit W.Sessions count)))
    refl (sym (ap (λ (l : List ℕ). codes "NO 17 item " ++ l)
    (two (decimal item) (codes " 13 limit sessions " ++ decimal count) (10 ∷ []))))
item_limit_form item W.Private count =
    at 35 (codes "NO 17 item # 13 limit private #\n") (item ∷ count ∷ []) (No (R.Item item (I.Limit W.Private count)))
    refl (sym (ap (λ (l : List ℕ). codes "NO 17 item " ++ l)
    (two (decimal item) (codes " 13 limit private " ++ decimal count) (10 ∷ []))))
item_limit_form item W.PrivateBytes count =
    at 36 (codes "NO 17 item # 13 limit private-bytes #\n") (item ∷ count ∷ [])
    (No (R.Item item (I.Limit W.PrivateBytes count))) refl
    (sym (ap (λ (l : List ℕ). codes "NO 17 item " ++ l)
    (two (decimal item) (codes " 13 limit private-bytes " ++ decimal count) (10 ∷ []))))
item_limit_form item W.Requesters count =
    at 37 (codes "NO 17 item # 13 limit requesters #\n") (item ∷ count ∷ [])
    (No (R.Item item (I.Limit W.Requesters count))) refl
    (sym (ap (λ (l : List ℕ). codes "NO 17 item " ++ l)
    (two (decimal item) (codes " 13 limit requesters " ++ decimal count) (10 ∷ []))))
item_limit_form item W.Attributes count =
    at 38 (codes "NO 17 item # 13 limit attributes #\n") (item ∷ count ∷ [])
    (No (R.Item item (I.Limit W.Attributes count))) refl
    (sym (ap (λ (l : List ℕ). codes "NO 17 item " ++ l)
    (two (decimal item) (codes " 13 limit attributes " ++ decimal count) (10 ∷ []))))
item_limit_form item W.Live count =
    at 39 (codes "NO 17 item # 13 limit live #\n") (item ∷ count ∷ []) (No (R.Item item (I.Limit W.Live count))) refl
    (sym (ap (λ (l : List ℕ). codes "NO 17 item " ++ l)
    (two (decimal item) (codes " 13 limit live " ++ decimal count) (10 ∷ []))))
item_limit_form item W.LiveBytes count =
    at 40 (codes "NO 17 item # 13 limit live-bytes #\n") (item ∷ count ∷ [])
    (No (R.Item item (I.Limit W.LiveBytes count))) refl
    (sym (ap (λ (l : List ℕ). codes "NO 17 item " ++ l)
    (two (decimal item) (codes " 13 limit live-bytes " ++ decimal count) (10 ∷ []))))
item_limit_form item W.Updates count =
    at 41 (codes "NO 17 item # 13 limit updates #\n") (item ∷ count ∷ []) (No (R.Item item (I.Limit W.Updates count)))
    refl (sym (ap (λ (l : List ℕ). codes "NO 17 item " ++ l)
    (two (decimal item) (codes " 13 limit updates " ++ decimal count) (10 ∷ []))))
item_limit_form item W.LogBytes count =
    at 42 (codes "NO 17 item # 13 limit log-bytes #\n") (item ∷ count ∷ [])
    (No (R.Item item (I.Limit W.LogBytes count))) refl
    (sym (ap (λ (l : List ℕ). codes "NO 17 item " ++ l)
    (two (decimal item) (codes " 13 limit log-bytes " ++ decimal count) (10 ∷ []))))
item_limit_form item W.Nodes count =
    at 43 (codes "NO 17 item # 13 limit nodes #\n") (item ∷ count ∷ []) (No (R.Item item (I.Limit W.Nodes count))) refl
    (sym (ap (λ (l : List ℕ). codes "NO 17 item " ++ l)
    (two (decimal item) (codes " 13 limit nodes " ++ decimal count) (10 ∷ []))))

item_form : (item : ℕ) (inner : ItemRefusal) → IsOfOneForm one_line_forms (reply_text (No (R.Item item inner)))
item_form item (I.Read fault place) =
    at 31 (codes "NO 17 item # 5 read # #\n") (item ∷ fault ∷ place ∷ []) (No (R.Item item (I.Read fault place))) refl
    (sym (ap (λ (l : List ℕ). codes "NO 17 item " ++ l)
    (ap (λ (l : List ℕ). decimal item ++ 32 ∷ (codes "5 read " ++ l))
    (two (decimal fault) (32 ∷ decimal place) (10 ∷ []))
    ∙ two (decimal item) (32 ∷ (codes "5 read " ++ decimal fault ++ 32 ∷ decimal place)) (10 ∷ []))))
item_form item (I.Auth fault) =
    at 32 (codes "NO 17 item # 7 auth #\n") (item ∷ fault ∷ []) (No (R.Item item (I.Auth fault))) refl
    (sym (ap (λ (l : List ℕ). codes "NO 17 item " ++ l)
    (two (decimal item) (codes " 7 auth " ++ decimal fault) (10 ∷ []))))
item_form item I.Unknown =
    at 33 (codes "NO 17 item # 12 unknown\n") (item ∷ []) (No (R.Item item I.Unknown)) refl
    (sym (ap (λ (l : List ℕ). codes "NO 17 item " ++ l) (two (decimal item) (codes " 12 unknown") (10 ∷ []))))
item_form item (I.Limit word count) = item_limit_form item word count

refusal_form : (refusal : Refusal) → IsOfOneForm one_line_forms (reply_text (No refusal))
refusal_form R.Syntax = at 6 (codes "NO 1 syntax\n") [] (No R.Syntax) refl refl
refusal_form R.Command = at 7 (codes "NO 2 command\n") [] (No R.Command) refl refl
refusal_form R.Session = at 8 (codes "NO 3 session\n") [] (No R.Session) refl refl
refusal_form R.Admin = at 9 (codes "NO 4 admin\n") [] (No R.Admin) refl refl
refusal_form (R.Read fault place) =
    at 10 (codes "NO 5 read # #\n") (fault ∷ place ∷ []) (No (R.Read fault place)) refl
    (sym (ap (λ (l : List ℕ). codes "NO 5 read " ++ l) (two (decimal fault) (32 ∷ decimal place) (10 ∷ []))))
refusal_form R.Policy = at 11 (codes "NO 6 policy\n") [] (No R.Policy) refl refl
refusal_form (R.Auth fault) = at 12 (codes "NO 7 auth #\n") (fault ∷ []) (No (R.Auth fault)) refl refl
refusal_form R.Name = at 13 (codes "NO 8 name\n") [] (No R.Name) refl refl
refusal_form R.Value = at 14 (codes "NO 9 value\n") [] (No R.Value) refl refl
refusal_form R.Values = at 15 (codes "NO 10 values\n") [] (No R.Values) refl refl
refusal_form R.Principal = at 16 (codes "NO 11 principal\n") [] (No R.Principal) refl refl
refusal_form R.Unknown = at 17 (codes "NO 12 unknown\n") [] (No R.Unknown) refl refl
refusal_form R.Long = at 28 (codes "NO 14 long\n") [] (No R.Long) refl refl
refusal_form R.Block = at 29 (codes "NO 15 block\n") [] (No R.Block) refl refl
refusal_form (R.Batch item) = at 30 (codes "NO 16 batch #\n") (item ∷ []) (No (R.Batch item)) refl refl
refusal_form (R.Retained newest) = at 44 (codes "NO 18 retained #\n") (newest ∷ []) (No (R.Retained newest)) refl refl
refusal_form (R.Ahead newest) = at 45 (codes "NO 19 ahead #\n") (newest ∷ []) (No (R.Ahead newest)) refl refl
refusal_form (R.Limit word count) = limit_form word count
refusal_form (R.Item item inner) = item_form item inner

reply_form : (reply : Reply) → kind_of reply ≡ OneLine → IsOfOneForm one_line_forms (reply_text reply)
reply_form Done one = at 0 (codes "OK\n") [] Done refl refl
reply_form (Started s version) one =
    at 1 (codes "OK # #\n") (s ∷ version ∷ []) (Started s version) refl
    (sym (ap (λ (l : List ℕ). codes "OK " ++ l) (two (decimal s) (32 ∷ decimal version) (10 ∷ []))))
reply_form (Number version) one = at 2 (codes "OK #\n") (version ∷ []) (Number version) refl refl
reply_form (PrivateAdded k) one = at 3 (codes "OK p#\n") (k ∷ []) (PrivateAdded k) refl refl
reply_form (Added k version) one =
    at 4 (codes "OK a# #\n") (k ∷ version ∷ []) (Added k version) refl
    (sym (ap (λ (l : List ℕ). codes "OK a" ++ l) (two (decimal k) (32 ∷ decimal version) (10 ∷ []))))
reply_form (Batched first added version) one =
    at 5 (codes "OK a# # #\n") (first ∷ added ∷ version ∷ []) (Batched first added version) refl
    (sym (ap (λ (l : List ℕ). codes "OK a" ++ l)
    (three (decimal first) (32 ∷ decimal added) (32 ∷ decimal version) (10 ∷ []))))
reply_form NoMemory one = at 46 (codes "NOMEM\n") [] NoMemory refl refl
reply_form (PinnedAt version newest) one =
    at 1 (codes "OK # #\n") (version ∷ newest ∷ []) (PinnedAt version newest) refl
    (sym (ap (λ (l : List ℕ). codes "OK " ++ l) (two (decimal version) (32 ∷ decimal newest) (10 ∷ []))))
reply_form (No refusal) one = refusal_form refusal
reply_form (Value index name version rows) one = absurd (cc)
reply_form (Log n history) one = absurd (cc)
reply_form (News index name version) one = absurd (cc)
reply_form (Critical index ids) one = absurd (cc)

pub one_line_to : (text : List ℕ) → IsTextOf OneLine text → IsOfOneForm one_line_forms text
one_line_to text is = subst (λ (l : List ℕ). IsOfOneForm one_line_forms l) (sym is.same) (reply_form is.reply is.is)
