-- Setup files and answers computed of the definitions: the words that are left out and those that are not, the bytes of each, and the room.
use Prim.Native.Nat.{ℕ}
use mathlib.Core.Path.{◌≡◌, refl}
use mathlib.Core.List.{List, [], ◌∷◌, ◌++◌, map}
use lib.ListN.{length, replicate}
use Rattle.std.specs.Prelude.{Result, Ok, Err}
use Rattle.refusals.specs.declared.Refusal.{Refusal}
use Rattle.refusals.specs.declared.Refusal.TheVariants.{Memory, Room}
use Rattle.setups.specs.Setup.{bytes_from, setup_of, setup_answer, setup_left}

-- ---- words and their bytes

-- an address, words from there on, and their bytes
pub record Case : Type 0 where
  pub address : ℕ
  pub words : List ℕ
  pub bytes : List ℕ

-- words 0 to 7, of which 3, 4 and 6 are left out; words 27 to 31, of which 29 is left out and 30 is 0; the last loop's words 29 to 31 and the first
-- free ones, where nothing is left out; the last word
abbrev pub cases : List Case
cases =
    record {
      address = 0;
      words = 0x0007 ∷ 0x0212 ∷ 1 ∷ 2 ∷ 3 ∷ 4 ∷ 5 ∷ 0x9999 ∷ [];
      bytes =
          0x06 ∷ 0x00 ∷ 0x01 ∷ 0x00 ∷ 0x00 ∷ 0x00 ∷ 0x07 ∷ 0x00 ∷ 0x06 ∷ 0x00 ∷ 0x01 ∷ 0x00 ∷ 0x01 ∷ 0x00 ∷ 0x12 ∷ 0x02
          ∷ 0x06 ∷ 0x00 ∷ 0x01 ∷ 0x00 ∷ 0x02 ∷ 0x00 ∷ 0x01 ∷ 0x00 ∷ 0x06 ∷ 0x00 ∷ 0x01 ∷ 0x00 ∷ 0x05 ∷ 0x00 ∷ 0x04 ∷ 0x00
          ∷ 0x06 ∷ 0x00 ∷ 0x01 ∷ 0x00 ∷ 0x07 ∷ 0x00 ∷ 0x99 ∷ 0x99 ∷ [];
    }
    ∷ record {
      address = 27;
      words = 0x000F ∷ 0x0200 ∷ 2 ∷ 0 ∷ 1 ∷ [];
      bytes =
          0x06 ∷ 0x00 ∷ 0x01 ∷ 0x00 ∷ 0x1B ∷ 0x00 ∷ 0x0F ∷ 0x00 ∷ 0x06 ∷ 0x00 ∷ 0x01 ∷ 0x00 ∷ 0x1C ∷ 0x00 ∷ 0x00 ∷ 0x02
          ∷ 0x06 ∷ 0x00 ∷ 0x01 ∷ 0x00 ∷ 0x1F ∷ 0x00 ∷ 0x01 ∷ 0x00 ∷ [];
    }
    ∷ record {
      address = 509;
      words = 1 ∷ 2 ∷ 3 ∷ 4 ∷ 5 ∷ 6 ∷ 7 ∷ 8 ∷ 9 ∷ 10 ∷ [];
      bytes =
          0x06 ∷ 0x00 ∷ 0x01 ∷ 0x00 ∷ 0xFE ∷ 0x01 ∷ 0x02 ∷ 0x00 ∷ 0x06 ∷ 0x00 ∷ 0x01 ∷ 0x00 ∷ 0xFF ∷ 0x01 ∷ 0x03 ∷ 0x00
          ∷ 0x06 ∷ 0x00 ∷ 0x01 ∷ 0x00 ∷ 0x00 ∷ 0x02 ∷ 0x04 ∷ 0x00 ∷ 0x06 ∷ 0x00 ∷ 0x01 ∷ 0x00 ∷ 0x01 ∷ 0x02 ∷ 0x05 ∷ 0x00
          ∷ 0x06 ∷ 0x00 ∷ 0x01 ∷ 0x00 ∷ 0x02 ∷ 0x02 ∷ 0x06 ∷ 0x00 ∷ 0x06 ∷ 0x00 ∷ 0x01 ∷ 0x00 ∷ 0x03 ∷ 0x02 ∷ 0x07 ∷ 0x00
          ∷ 0x06 ∷ 0x00 ∷ 0x01 ∷ 0x00 ∷ 0x04 ∷ 0x02 ∷ 0x08 ∷ 0x00 ∷ 0x06 ∷ 0x00 ∷ 0x01 ∷ 0x00 ∷ 0x05 ∷ 0x02 ∷ 0x09 ∷ 0x00
          ∷ 0x06 ∷ 0x00 ∷ 0x01 ∷ 0x00 ∷ 0x06 ∷ 0x02 ∷ 0x0A ∷ 0x00 ∷ [];
    }
    ∷ record { address = 1023; words = 0xFFFF ∷ []; bytes = 0x06 ∷ 0x00 ∷ 0x01 ∷ 0x00 ∷ 0xFF ∷ 0x03 ∷ 0xFF ∷ 0xFF ∷ [] }
    ∷ []

pub computed : map (λ (c : Case). bytes_from c.address c.words) cases ≡ map (λ (c : Case). c.bytes) cases
unfolding bytes_from
computed = refl

-- 7,680 bytes are not only enough: words without a 0 take them all
pub fullest : length (setup_of (replicate 1024 1)) ≡ 7680
unfolding bytes_from
fullest = refl

-- ---- the worked loop (X5)

-- the words that X1's file leaves of loop 1, up to word 25
abbrev pub loop_a : List ℕ
loop_a = 0 ∷ 0 ∷ 1500 ∷ 1000 ∷ 2100 ∷ 3100 ∷ 2 ∷ 0x0100 ∷ 0x0200 ∷ 0x1000 ∷ (replicate 15 0 ++ (4095 ∷ []))

abbrev pub file : List ℕ
file =
    0x06 ∷ 0x00 ∷ 0x01 ∷ 0x00 ∷ 0x02 ∷ 0x00 ∷ 0xDC ∷ 0x05 ∷ 0x06 ∷ 0x00 ∷ 0x01 ∷ 0x00 ∷ 0x05 ∷ 0x00 ∷ 0x1C ∷ 0x0C
    ∷ 0x06 ∷ 0x00 ∷ 0x01 ∷ 0x00 ∷ 0x07 ∷ 0x00 ∷ 0x00 ∷ 0x01 ∷ 0x06 ∷ 0x00 ∷ 0x01 ∷ 0x00 ∷ 0x08 ∷ 0x00 ∷ 0x00 ∷ 0x02
    ∷ 0x06 ∷ 0x00 ∷ 0x01 ∷ 0x00 ∷ 0x09 ∷ 0x00 ∷ 0x00 ∷ 0x10 ∷ 0x06 ∷ 0x00 ∷ 0x01 ∷ 0x00 ∷ 0x19 ∷ 0x00 ∷ 0xFF ∷ 0x0F ∷ []

-- ---- answers

-- all 1,024 words of a desk whose only loop is that one
abbrev pub desk : List ℕ
desk = loop_a ++ replicate 998 0

-- words, room, the answer, and the room behind the call
pub record Call : Type 0 where
  pub words : List ℕ
  pub out : List ℕ
  pub answer : Result ℕ Refusal
  pub left : List ℕ

-- room for the file and two bytes, for the file alone, and for one byte less; words that are all 0, in no room; a word too few, and a word too many in too little room
abbrev pub calls : List Call
calls =
    record { words = desk; out = replicate 50 0xEE; answer = Ok 48; left = file ++ (0xEE ∷ 0xEE ∷ []) }
    ∷ record { words = desk; out = replicate 48 0xEE; answer = Ok 48; left = file }
    ∷ record { words = desk; out = replicate 47 0xEE; answer = Err Room; left = replicate 47 0xEE }
    ∷ record { words = replicate 1024 0; out = []; answer = Ok 0; left = [] }
    ∷ record { words = loop_a ++ replicate 997 0; out = replicate 50 0xEE; answer = Err Memory; left = replicate 50 0xEE }
    ∷ record { words = 0 ∷ desk; out = 0xEE ∷ []; answer = Err Memory; left = 0xEE ∷ [] }
    ∷ []

pub answered : map (λ (c : Call). setup_answer c.words (length c.out)) calls ≡ map (λ (c : Call). c.answer) calls
unfolding bytes_from setup_answer
answered = refl

pub left : map (λ (c : Call). setup_left c.words c.out) calls ≡ map (λ (c : Call). c.left) calls
unfolding bytes_from setup_left
left = refl
