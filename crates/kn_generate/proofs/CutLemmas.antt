-- How the text of a generated credential is cut.
use Rattle.std.proofs.Common.{◌≡◌, ℕ, zero, suc, true, false, Bool, ◌+◌, ◌<◌, ◌==◌, ◌&&◌, not, take, List, [], ◌∷◌}
use Rattle.std.proofs.Common.{◌++◌, Some, refl, ◌∙◌, ap, codes, arith}
use Rattle.kn_lex.specs.Cutting.{start}
use Rattle.std.specs.List.{prefix_len, list_all}
use Rattle.kn_lex.specs.Bytes.{is_white}
use Rattle.kn_lex.specs.Spelling.{is_blank}
use Rattle.kn_lex.specs.Faults.{goes_on}
use Rattle.kn_lex.specs.Scanning.{is_bad_blank, plain_lexeme, white_len, colon_len, zero_place}
use Rattle.kn_lex.specs.declared.token.Sort.TheVariants.{Label, Name, Number, Text, Sign}
use Rattle.kn_lex.specs.declared.lexeme.Lexeme.{Lexeme}
use Rattle.kn_lex.specs.declared.lexeme.Lexeme.TheVariants.{White, Token}
use Rattle.kn_lex.specs.declared.lexeme.Place.{Place}
use Rattle.kn_lex.specs.declared.lexeme.Context.TheVariants.{LineStart, WithinLine}
use Rattle.kn_program.specs.Signs.{number_of}
use Rattle.kn_generate.proofs.Scans.{bytes_of, IsCut, AreCuts}
use Rattle.kn_generate.proofs.Literals.{ArePlain, quoted, literal_cut}

-- within a line, and at the beginning of a later line
abbrev pub inner : Place
inner = record { context = WithinLine; has_token = true }

abbrev pub outer : Place
outer = record { context = LineStart; has_token = true }

-- what holds of a digit by its value
pub record IsDigit (t : ℕ) : Type 0 where
  pub spaced : (rest : List ℕ) → IsCut inner White (codes " ") ((48 + t) ∷ rest)
  pub cut : (rest : List ℕ) → IsCut inner (Token Number) ((48 + t) ∷ []) (32 ∷ 45 ∷ rest)
  pub value : ℕ
  pub valued : number_of ((48 + t) ∷ []) ≡ Some value

abbrev pub Cuts : Type 0
Cuts = List (Lexeme × List ℕ)

-- the pieces of a credential where its numbers are spelled so, in the order of their places
abbrev pub conditions_cuts : List ℕ → List ℕ → Cuts
conditions_cuts t e =
    (White, codes "\n") ∷ (Token Label, codes "Conditions:") ∷ (White, codes " ") ∷ (Token Sign, codes "@")
    ∷ (Token Name, codes "level") ∷ (White, codes " ")
    ∷ (Token Sign, codes ">") ∷ (White, codes " ") ∷ (Token Number, t) ∷ (White, codes " ") ∷ (Token Sign, codes "->")
    ∷ (White, codes " ")
    ∷ (Token Text, quoted (118 ∷ e)) ∷ (Token Sign, codes ";") ∷ (White, codes " ") ∷ (Token Name, codes "true")
    ∷ (White, codes " ")
    ∷ (Token Sign, codes "->") ∷ (White, codes " ") ∷ (Token Text, codes "\"v1\"") ∷ (Token Sign, codes ";")
    ∷ (White, codes "\n") ∷ []

abbrev pub licensees_cuts : List ℕ → List ℕ → List ℕ → List ℕ → Cuts → Cuts
licensees_cuts a b c d rest =
    (White, codes "\n") ∷ (Token Label, codes "Licensees:") ∷ (White, codes " ") ∷ (Token Text, quoted (112 ∷ a))
    ∷ (White, codes " ") ∷ (Token Sign, codes "||")
    ∷ (White, codes " ") ∷ (Token Number, codes "2") ∷ (Token Sign, codes "-") ∷ (Token Name, codes "of")
    ∷ (Token Sign, codes "(")
    ∷ (Token Text, quoted (112 ∷ b)) ∷ (Token Sign, codes ",") ∷ (Token Text, quoted (112 ∷ c))
    ∷ (Token Sign, codes ",")
    ∷ (Token Text, quoted (112 ∷ d)) ∷ (Token Sign, codes ")") ∷ rest

abbrev pub authorizer_cuts : List ℕ → Cuts → Cuts
authorizer_cuts i rest = (Token Label, codes "Authorizer:") ∷ (White, codes " ") ∷ (Token Text, quoted (112 ∷ i)) ∷ rest

abbrev pub credential_cuts : List ℕ → List ℕ → List ℕ → List ℕ → List ℕ → List ℕ → List ℕ → Cuts
credential_cuts i a b c d t e = authorizer_cuts i (licensees_cuts a b c d (conditions_cuts t e))

not_blank : (b : ℕ) (bytes : List ℕ) → is_white b ≡ false → (b == 10) ≡ false → is_blank (b ∷ bytes) ≡ false
not_blank b bytes dark e =
    let size : prefix_len (λ byte. not (byte == 10)) (b ∷ bytes) ≡ suc (prefix_len (λ byte. not (byte == 10)) bytes) =
    rw e (omega arith) in
    ap (λ (k : ℕ). list_all is_white (take k (b ∷ bytes))) size ∙ rw dark refl

-- a line that begins so isn't blank
no_blank : (b : ℕ) (bytes : List ℕ) → is_white b ≡ false → (b == 10) ≡ false → is_bad_blank outer (b ∷ bytes) ≡ false
no_blank b bytes dark e = ap (λ (blank : Bool). blank && goes_on false (b ∷ bytes)) (not_blank b bytes dark e)

label_cut : (rest : List ℕ) → IsCut start (Token Label) (codes "Authorizer:") (32 ∷ rest)
unfolding plain_lexeme colon_len zero_place
label_cut rest = record { some = refl; exact = refl; cut = refl; clean = λ at. refl }

licensees_label : (rest : List ℕ) → IsCut outer (Token Label) (codes "Licensees:") (32 ∷ rest)
unfolding plain_lexeme colon_len zero_place
licensees_label rest = record {
  some = refl;
  exact = no_blank 76 (codes "icensees:" ++ 32 ∷ rest) refl refl;
  cut = refl;
  clean = λ at. refl;
}

conditions_label : (rest : List ℕ) → IsCut outer (Token Label) (codes "Conditions:") (32 ∷ rest)
unfolding plain_lexeme colon_len zero_place
conditions_label rest = record {
  some = refl;
  exact = no_blank 67 (codes "onditions:" ++ 32 ∷ rest) refl refl;
  cut =
      refl;
  clean = λ at. refl;
}

-- a space before each of these bytes
space_before : (rest : List ℕ)
    → (IsCut inner White (codes " ") (34 ∷ rest)
    × (IsCut inner White (codes " ") (124 ∷ rest)
    × (IsCut inner White (codes " ") (50 ∷ rest) × (IsCut inner White (codes " ") (64 ∷ rest)
    × (IsCut inner White (codes " ") (62 ∷ rest)
    × (IsCut inner White (codes " ") (45 ∷ rest) × IsCut inner White (codes " ") (116 ∷ rest)))))))
unfolding plain_lexeme white_len zero_place
space_before rest = (
  record { some = refl; exact = refl; cut = refl; clean = λ at. refl },
  (
    record { some = refl; exact = refl; cut = refl; clean = λ at. refl },
    (
      record { some = refl; exact = refl; cut = refl; clean = λ at. refl },
      (
        record { some = refl; exact = refl; cut = refl; clean = λ at. refl },
        (
          record { some = refl; exact = refl; cut = refl; clean = λ at. refl },
          (
            record { some = refl; exact = refl; cut = refl; clean = λ at. refl },
            record { some = refl; exact = refl; cut = refl; clean = λ at. refl },
          ),
        ),
      ),
    ),
  ),
)

line_end : (rest : List ℕ) → IsCut inner White (codes "\n") rest
unfolding plain_lexeme white_len zero_place
line_end rest = record { some = refl; exact = refl; cut = refl; clean = λ at. refl }

-- signs before a byte that they don't go on with
sign_cuts : (rest : List ℕ)
    → (IsCut inner (Token Sign) (codes "||") (32 ∷ rest)
    × (IsCut inner (Token Sign) (codes "-") (111 ∷ rest) × (IsCut inner (Token Sign) (codes "(") (34 ∷ rest)
    × (IsCut inner (Token Sign) (codes ",") (34 ∷ rest)
    × (IsCut inner (Token Sign) (codes ")") (10 ∷ rest) × (IsCut inner (Token Sign) (codes "@") (108 ∷ rest)
    × (IsCut inner (Token Sign) (codes ">") (32 ∷ rest)
    × (IsCut inner (Token Sign) (codes "->") (32 ∷ rest)
    × (IsCut inner (Token Sign) (codes ";") (32 ∷ rest) × IsCut inner (Token Sign) (codes ";") (10 ∷ rest))))))))))
unfolding plain_lexeme zero_place
sign_cuts rest = (
  record { some = refl; exact = refl; cut = refl; clean = λ at. refl },
  (
    record { some = refl; exact = refl; cut = refl; clean = λ at. refl },
    (
      record { some = refl; exact = refl; cut = refl; clean = λ at. refl },
      (
        record { some = refl; exact = refl; cut = refl; clean = λ at. refl },
        (
          record { some = refl; exact = refl; cut = refl; clean = λ at. refl },
          (
            record { some = refl; exact = refl; cut = refl; clean = λ at. refl },
            (
              record { some = refl; exact = refl; cut = refl; clean = λ at. refl },
              (
                record { some = refl; exact = refl; cut = refl; clean = λ at. refl },
                (
                  record { some = refl; exact = refl; cut = refl; clean = λ at. refl },
                  record { some = refl; exact = refl; cut = refl; clean = λ at. refl },
                ),
              ),
            ),
          ),
        ),
      ),
    ),
  ),
)

word_cuts : (rest : List ℕ)
    → (IsCut inner (Token Number) (codes "2") (45 ∷ 111 ∷ rest) × (IsCut inner (Token Name) (codes "of") (40 ∷ rest)
    × (IsCut inner (Token Name) (codes "level") (32 ∷ rest) × IsCut inner (Token Name) (codes "true") (32 ∷ rest))))
unfolding plain_lexeme zero_place
word_cuts rest = (
  record { some = refl; exact = refl; cut = refl; clean = λ at. refl },
  (
    record { some = refl; exact = refl; cut = refl; clean = λ at. refl },
    (
      record { some = refl; exact = refl; cut = refl; clean = λ at. refl },
      record { some = refl; exact = refl; cut = refl; clean = λ at. refl },
    ),
  ),
)

conditions_cut : (t : ℕ) (e : List ℕ) → IsDigit t → ArePlain (118 ∷ e) → ArePlain (118 ∷ 49 ∷ [])
    → AreCuts inner (conditions_cuts ((48 + t) ∷ []) e)
conditions_cut t e digit plain one = (
  line_end _,
  (
    conditions_label _,
    (
      (space_before _).1.1.1.0,
      (
        (sign_cuts _).1.1.1.1.1.0,
        (
          (word_cuts _).1.1.0,
          (
            (space_before _).1.1.1.1.0,
            (
              (sign_cuts _).1.1.1.1.1.1.0,
              (
                digit.spaced _,
                (
                  digit.cut _,
                  (
                    (space_before _).1.1.1.1.1.0,
                    (
                      (sign_cuts _).1.1.1.1.1.1.1.0,
                      (
                        (space_before _).0,
                        (
                          literal_cut true (118 ∷ e) _ plain,
                          (
                            (sign_cuts _).1.1.1.1.1.1.1.1.0,
                            (
                              (space_before _).1.1.1.1.1.1,
                              (
                                (word_cuts _).1.1.1,
                                (
                                  (space_before _).1.1.1.1.1.0,
                                  (
                                    (sign_cuts _).1.1.1.1.1.1.1.0,
                                    (
                                      (space_before _).0,
                                      (
                                        literal_cut true (118 ∷ 49 ∷ []) _ one,
                                        ((sign_cuts _).1.1.1.1.1.1.1.1.1, (line_end _, tt)),
                                      ),
                                    ),
                                  ),
                                ),
                              ),
                            ),
                          ),
                        ),
                      ),
                    ),
                  ),
                ),
              ),
            ),
          ),
        ),
      ),
    ),
  ),
)

licensees_cut : (a b c d : List ℕ) (rest : Cuts) (next : List ℕ) → bytes_of rest ≡ 10 ∷ next → ArePlain (112 ∷ a)
    → ArePlain (112 ∷ b) → ArePlain (112 ∷ c) → ArePlain (112 ∷ d)
    → IsCut inner (Token Sign) (codes ")") (bytes_of rest) → AreCuts inner rest
    → AreCuts inner (licensees_cuts a b c d rest)
licensees_cut a b c d rest next is pa pb pc pd close are = (
  line_end _,
  (
    licensees_label _,
    (
      (space_before _).0,
      (
        literal_cut true (112 ∷ a) _ pa,
        (
          (space_before _).1.0,
          (
            (sign_cuts _).0,
            (
              (space_before _).1.1.0,
              (
                (word_cuts _).0,
                (
                  (sign_cuts _).1.0,
                  (
                    (word_cuts _).1.0,
                    (
                      (sign_cuts _).1.1.0,
                      (
                        literal_cut true (112 ∷ b) _ pb,
                        (
                          (sign_cuts _).1.1.1.0,
                          (
                            literal_cut true (112 ∷ c) _ pc,
                            ((sign_cuts _).1.1.1.0, (literal_cut true (112 ∷ d) _ pd, (close, are))),
                          ),
                        ),
                      ),
                    ),
                  ),
                ),
              ),
            ),
          ),
        ),
      ),
    ),
  ),
)

pub credential_cut : (i a b c d e : List ℕ) (t : ℕ) → IsDigit t → ArePlain (112 ∷ i) → ArePlain (112 ∷ a)
    → ArePlain (112 ∷ b) → ArePlain (112 ∷ c) → ArePlain (112 ∷ d)
    → ArePlain (118 ∷ e) → ArePlain (118 ∷ 49 ∷ []) → AreCuts start (credential_cuts i a b c d ((48 + t) ∷ []) e)
credential_cut i a b c d e t digit pi pa pb pc pd pe one = (
  label_cut _,
  (
    (space_before _).0,
    (
      literal_cut true (112 ∷ i) _ pi,
      licensees_cut a b c d (conditions_cuts ((48 + t) ∷ []) e) _ refl pa pb pc pd ((sign_cuts _).1.1.1.1.0)
          (conditions_cut t e digit pe one),
    ),
  ),
)

-- the pieces of the policy's credential
abbrev pub policy_cuts : Cuts
policy_cuts =
    (Token Label, codes "Authorizer:") ∷ (White, codes " ") ∷ (Token Text, quoted (codes "POLICY"))
    ∷ (White, codes "\n")
    ∷ (Token Label, codes "Licensees:") ∷ (White, codes " ") ∷ (Token Text, quoted (codes "p0")) ∷ (White, codes "\n")
    ∷ []

pub policy_cut : ArePlain (codes "POLICY") → ArePlain (codes "p0") → AreCuts start policy_cuts
policy_cut policy first = (
  label_cut _,
  (
    (space_before _).0,
    (
      literal_cut true (codes "POLICY") _ policy,
      (
        line_end _,
        (licensees_label _, ((space_before _).0, (literal_cut true (codes "p0") _ first, (line_end _, tt)))),
      ),
    ),
  ),
)

-- each digit by itself
at_digit : (P : ℕ → Type 0) → P 0 → P 1 → P 2 → P 3 → P 4 → P 5 → P 6 → P 7 → P 8 → P 9 → (t : ℕ) → t < 10 → P t
at_digit P a b c d e f g h i j zero small = a
at_digit P a b c d e f g h i j (suc zero) small = b
at_digit P a b c d e f g h i j (suc (suc zero)) small = c
at_digit P a b c d e f g h i j (suc (suc (suc zero))) small = d
at_digit P a b c d e f g h i j (suc (suc (suc (suc zero)))) small = e
at_digit P a b c d e f g h i j (suc (suc (suc (suc (suc zero))))) small = f
at_digit P a b c d e f g h i j (suc (suc (suc (suc (suc (suc zero)))))) small = g
at_digit P a b c d e f g h i j (suc (suc (suc (suc (suc (suc (suc zero))))))) small = h
at_digit P a b c d e f g h i j (suc (suc (suc (suc (suc (suc (suc (suc zero)))))))) small = i
at_digit P a b c d e f g h i j (suc (suc (suc (suc (suc (suc (suc (suc (suc zero))))))))) small = j
at_digit P a b c d e f g h i j (suc (suc (suc (suc (suc (suc (suc (suc (suc (suc n)))))))))) small =
    absurd (omega arith)

pub digit_is : (t : ℕ) → t < 10 → IsDigit t
unfolding plain_lexeme white_len zero_place number_of
digit_is t small = at_digit IsDigit
    (record {
      spaced = λ rest. record { some = refl; exact = refl; cut = refl; clean = λ at. refl };
      cut =
          λ rest. record { some = refl; exact = refl; cut = refl; clean = λ at. refl };
      value = 0;
      valued = refl;
    })
    (record {
      spaced = λ rest. record { some = refl; exact = refl; cut = refl; clean = λ at. refl };
      cut =
          λ rest. record { some = refl; exact = refl; cut = refl; clean = λ at. refl };
      value = 1;
      valued = refl;
    })
    (record {
      spaced = λ rest. record { some = refl; exact = refl; cut = refl; clean = λ at. refl };
      cut =
          λ rest. record { some = refl; exact = refl; cut = refl; clean = λ at. refl };
      value = 2;
      valued = refl;
    })
    (record {
      spaced = λ rest. record { some = refl; exact = refl; cut = refl; clean = λ at. refl };
      cut =
          λ rest. record { some = refl; exact = refl; cut = refl; clean = λ at. refl };
      value = 3;
      valued = refl;
    })
    (record {
      spaced = λ rest. record { some = refl; exact = refl; cut = refl; clean = λ at. refl };
      cut =
          λ rest. record { some = refl; exact = refl; cut = refl; clean = λ at. refl };
      value = 4;
      valued = refl;
    })
    (record {
      spaced = λ rest. record { some = refl; exact = refl; cut = refl; clean = λ at. refl };
      cut =
          λ rest. record { some = refl; exact = refl; cut = refl; clean = λ at. refl };
      value = 5;
      valued = refl;
    })
    (record {
      spaced = λ rest. record { some = refl; exact = refl; cut = refl; clean = λ at. refl };
      cut =
          λ rest. record { some = refl; exact = refl; cut = refl; clean = λ at. refl };
      value = 6;
      valued = refl;
    })
    (record {
      spaced = λ rest. record { some = refl; exact = refl; cut = refl; clean = λ at. refl };
      cut =
          λ rest. record { some = refl; exact = refl; cut = refl; clean = λ at. refl };
      value = 7;
      valued = refl;
    })
    (record {
      spaced = λ rest. record { some = refl; exact = refl; cut = refl; clean = λ at. refl };
      cut =
          λ rest. record { some = refl; exact = refl; cut = refl; clean = λ at. refl };
      value = 8;
      valued = refl;
    })
    (record {
      spaced = λ rest. record { some = refl; exact = refl; cut = refl; clean = λ at. refl };
      cut =
          λ rest. record { some = refl; exact = refl; cut = refl; clean = λ at. refl };
      value = 9;
      valued = refl;
    })
    t small
