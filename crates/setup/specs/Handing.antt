-- What the program `setup` writes of a drill file (L14).
use Rattle.std.specs.Prelude.{ℕ, cond, List, [], ltb, length}
use Rattle.desk.specs.Desk.{reset_desk}
use Rattle.setups.specs.Setup.{setup_of}
use Rattle.session.specs.Session.{left_of}

-- L14: the setup file of the words that it leaves from reset; of a file above 65,536 bytes (L1) no byte
unfoldable pub written_of : List ℕ → List ℕ
written_of file = cond (ltb 65536 (length file)) [] (setup_of (left_of file reset_desk).words)
