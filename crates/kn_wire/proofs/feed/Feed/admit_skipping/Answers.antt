use Rattle.std.proofs.Common.{◌≡◌, ◌∙◌, ◌+◌, ap, sym, take, drop, arith}
use Rattle.kn_wire.specs.Cursors.{held_by}
use Rattle.kn_wire.specs.Feeding.{Bytes, InLong, with_piece}
use Rattle.kn_wire.specs.Feeds.{held}
use Rattle.kn_wire.proofs.Feeds.{drop_more, skips_all, skips_line}
use Rattle.kn_wire.proofs.feed.Feed.admit_skipping.Goals as goal

pub returns-then-line-bytes : goal.returns-then-line-bytes
unfolding held
returns-then-line-bytes c =
    let self = c.args.self.now in
    let text = drop self.cursor.from (take self.end self.buf.items) in
    let piece = c.split_at-2.result.0.now in
    let is : piece ≡ take c.args.bytes (drop self.end self.buf.items) = c.split_at-2.ensures.front
    ∙ ap (take c.args.bytes) (c.split_at.ensures.back ∙ ap (drop self.end) c.as_slice.ensures.value) in
    ap (λ stage. held_by stage text) c.requires.stage
    ∙ skips_all piece c.place_of-line.result c.place_of-line.ensures.place (c.if-line-bytes.true
    ∙ sym c.split_at-2.ensures.front_len)
    ∙ ap (with_piece InLong) is
    ∙ ap (λ stage. with_piece (held_by stage text) (take c.args.bytes (drop self.end self.buf.items)))
    (sym c.requires.stage)

pub returns : goal.returns
unfolding held
returns c =
    let self = c.args.self.now in
    let line = c.place_of-line.result in
    let text = drop self.cursor.from (take self.end self.buf.items) in
    let came = take (self.end + c.args.bytes) self.buf.items in
    let piece = c.split_at-2.result.0.now in
    let is : piece ≡ take c.args.bytes (drop self.end self.buf.items) = c.split_at-2.ensures.front
    ∙ ap (take c.args.bytes) (c.split_at.ensures.back ∙ ap (drop self.end) c.as_slice.ensures.value) in
    let place : self.end + line + 1 ≡ self.end + (line + 1) = omega arith in
    ap (λ k. held_by k.stage (drop (self.end + line + 1) came)) c.start-self.ensures
    ∙ ap (λ n. Bytes (drop n came)) place
    ∙ ap Bytes (drop_more self.buf.items self.end (line + 1) c.args.bytes)
    ∙ ap (λ p. Bytes (drop (line + 1) p)) (sym is)
    ∙ skips_line piece line c.place_of-line.ensures.place (omega arith)
    ∙ ap (with_piece InLong) is
    ∙ ap (λ stage. with_piece (held_by stage text) (take c.args.bytes (drop self.end self.buf.items)))
    (sym c.requires.stage)
