use Rattle.kn_assert.specs.AssertionTexts.{IsReading, IsFirstReadFault}
use Rattle.kn_assert.proofs.Readings.{FieldsTold, text_tells, spelled_reading, fault_reading, no_memory}
use Rattle.kn_assert.proofs.Showing.{tells_value, tells_fault}
use Rattle.kn_assert.proofs.laws.readings_are_computed.Goals as goal

pub returns : goal.returns
returns c =
    let told : FieldsTold = record {
      tokens = c.fields_are_computed.ensures.tokens;
      fault = c.fields_are_computed.ensures.fault;
      parts = record {
        deep = c.depth_is_computed.ensures.deep;
        not_deep = c.depth_is_computed.ensures.not_deep;
        states = c.licensees_found.ensures.formula;
        shows = c.licensees_found.ensures.fault;
        states_program = c.program_found.ensures.program;
        shows_program = c.program_found.ensures.fault;
      };
      one = c.one_field_of_each_number.ensures.one;
      authorizer = c.one_field_of_each_number.ensures.authorizer;
    } in
    record {
      reading = λ text x. (
        tells_value (IsReading text) (IsFirstReadFault text) _ x (text_tells told text),
        spelled_reading told text x,
      );
      fault = λ text f. (
        tells_fault (IsReading text) (IsFirstReadFault text) _ f (text_tells told text),
        fault_reading told text f,
      );
      not_memory = λ text e.
          no_memory text (tells_fault (IsReading text) (IsFirstReadFault text) _ _ (text_tells told text) e);
    }
