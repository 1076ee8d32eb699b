use Rattle.std.proofs.Common.{◌≡◌, ℕ, List, ◌⊎◌, inl, inr, Result, Ok, Err, refl}
use Rattle.kn_trees.specs.declared.assertion.Assertion.{Assertion}
use Rattle.kn_assert.specs.Reading.{reading_of}
use Rattle.kn_assert.specs.AssertionTexts.{IsReading, IsFirstReadFault}
use Rattle.kn_fields.specs.declared.fault.ReadFault.{ReadFault}
use Rattle.kn_assert.proofs.laws.assertion_or_first_fault.Goals as goal

pub returns : goal.returns
returns c =
    let ok = c.readings_are_computed.ensures.reading in
    let err = c.readings_are_computed.ensures.fault in
    record {
      some = λ text. by text (reading_of text) refl;
      not_both = λ text x fault h k. cc ((ok text x).1 h, (err text fault).1 k);
      one_assertion = λ text x y h k. cc ((ok text x).1 h, (ok text y).1 k);
      one_fault = λ text f g h k. cc ((err text f).1 h, (err text g).1 k);
    }
  where
    by : (text : List ℕ) (r : Result Assertion ReadFault) → reading_of text ≡ r → ((x : Assertion) × IsReading text x)
        ⊎ ((fault : ReadFault) × IsFirstReadFault text fault)
    by text (Ok x) e = inl (x, (c.readings_are_computed.ensures.reading text x).0 e)
    by text (Err fault) e = inr (fault, (c.readings_are_computed.ensures.fault text fault).0 e)
