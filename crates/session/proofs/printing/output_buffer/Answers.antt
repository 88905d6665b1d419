-- `session::output_buffer` meets its contract: it is `buffer`'s, at the length that the contract names. Given, for what a check would compute builds the list.
use Rattle.session.proofs.printing.output_buffer.Goals as goal

pub returns : goal.returns
returns c = c.buffer.ensures
