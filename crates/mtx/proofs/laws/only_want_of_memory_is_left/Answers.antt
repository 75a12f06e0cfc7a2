use Rattle.std.specs.Prelude.{IsTrue}
use Rattle.mtx.proofs.Verdicts.{only_left}
use Rattle.mtx.proofs.laws.only_want_of_memory_is_left.Goals as goal

pub returns : goal.returns
returns g c = λ lines held after status reads reads_now writes writes_now played of_clients
    playable read_rose write_rose no_read no_write.
    only_left ((d : g.row.D.Denot) → IsTrue (g.D.Disk.tells d)) lines held after status
    played.ending played.ended played.status playable (played.judged of_clients)
    (λ is. no_read (read_rose is)) (λ is. no_write (write_rose is))
