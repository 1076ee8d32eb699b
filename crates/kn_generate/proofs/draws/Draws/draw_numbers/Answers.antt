use Rattle.kn_generate.proofs.TextLemmas.{six_draws}
use Rattle.kn_generate.proofs.draws.Draws.draw_numbers.Goals as goal

pub returns-clause-numbers : goal.returns-clause-numbers
returns-clause-numbers c =
    six_draws c.args.n c.args.i c.args.self.now.state c.draw.new.self.state c.draw-2.new.self.state
    c.draw-3.new.self.state c.draw-4.new.self.state c.draw-5.new.self.state
    c.draw.result c.draw-2.result c.draw-3.result c.draw-4.result c.draw-5.result c.draw-6.result
    c.draw.ensures.state c.draw-2.ensures.state c.draw-3.ensures.state c.draw-4.ensures.state c.draw-5.ensures.state
    c.draw.ensures.draw_value c.draw-2.ensures.draw_value c.draw-3.ensures.draw_value c.draw-4.ensures.draw_value
    c.draw-5.ensures.draw_value c.draw-6.ensures.draw_value
