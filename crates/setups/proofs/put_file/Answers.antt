-- `setups::put_file` meets its contract: writing the bytes of the words that are left, from the place on, would complete the file.
use Rattle.std.proofs.Common.{◌∙◌, ap, ◌+◌, ◌<◌, arith, length, get_or, drop}
use Rattle.std.proofs.lemmas.Grind.{common_steps}
use Rattle.text.specs.Text.Laws.{sets_append}
use Rattle.setups.specs.Setup.{bytes_of, bytes_from}
use Rattle.setups.proofs.Laws.Setup.{bytes_none, bytes_step, length_step}
use Rattle.setups.proofs.put_file.Goals as goal

pub put_bytes-requires-clause-room : goal.put_bytes-requires-clause-room
put_bytes-requires-clause-room c =
    let l = c.loop-address in
    omega (arith, length_step c.args.words.now l.address (omega arith), ap length c.new-file.ensures.now)

pub loop-address-preserved : goal.loop-address-preserved
loop-address-preserved c =
    let put = c.put_bytes.ensures in
    let l = c.loop-address in
    let words = c.args.words.now in
    let own = bytes_of l.address (get_or words l.address 0) in
    let rest = bytes_from (l.address + 1) (drop (l.address + 1) words) in
    let on : l.address < length words = omega arith in
    let joined = sets_append l.file.out.now l.file.at own rest ∙ rw (bytes_step words l.address on) at l.invariant.3 in (
      put.same ∙ l.invariant.0,
      put.size ∙ l.invariant.1,
      omega (arith, put.written.place, length_step words l.address on, l.invariant.2),
      rw (put.written.buffer, put.written.place) joined,
    )

pub returns : goal.returns
returns c =
    let l = c.loop-address in
    let words = c.args.words.now in
    let none = bytes_none words l.address (omega arith) in
    let all = rw none at l.invariant.3 in
    record { buffer = grind (arith, common_steps, all); place = omega (arith, rw none at l.invariant.2) }
