-- `session::input_buffer` meets its contract: it is `buffer`'s, at the length that the contract names. Given, for what a check would compute builds the list.
use Rattle.session.proofs.printing.input_buffer.Goals as goal

pub returns : goal.returns
returns c = c.buffer.ensures
