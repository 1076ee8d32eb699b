use Rattle.kn_wire.proofs.ItemBlocks.{read-are_items, items-are_read, block-departs, departing-is_refused}
use Rattle.kn_wire.proofs.laws.batch_is_items.Goals as goal

pub returns-clause-items : goal.returns-clause-items
returns-clause-items c = read-are_items

pub returns-clause-read : goal.returns-clause-read
returns-clause-read c = items-are_read

pub returns-clause-departs : goal.returns-clause-departs
returns-clause-departs c = block-departs

pub returns-clause-refused : goal.returns-clause-refused
returns-clause-refused c = departing-is_refused
