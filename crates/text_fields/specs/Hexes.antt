-- Hexes: nonces, frames and bytes as hexadecimal text, two lower-case digits for each byte.
use Rattle.std.specs.Prelude.{ℕ, Bool, not, ◌&&◌, ◌||◌, ◌==◌, List, length, Option, None, option_map, option_and_then, nat_le, if◌then◌else◌}
use Rattle.std.specs.Result.{result_ok}
use Rattle.std.specs.Char.{is_ascii_digit}
use Rattle.std.specs.List.{list_all}
use Rattle.hex.specs.Hex.{decode_of, decode_sized}
use Rattle.definitions.specs.declared.openings.Nonce.{Nonce}
use Rattle.definitions.specs.declared.frames.TurnFrame.{TurnFrame}
use Rattle.commitment.specs.Spelling.{turn_frame_of}

-- a digit, `0` to `9` or `a` to `f`
abbrev pub is_lower_digit : ℕ → Bool
is_lower_digit b = is_ascii_digit b || (nat_le 97 b && nat_le b 102)

-- the nonce of 64 digits
abbrev pub nonce_of : List ℕ → Option Nonce
nonce_of text =
    if list_all is_lower_digit text then option_map (λ bytes. record { bytes = bytes }) (result_ok (decode_sized text 32)) else None

-- the commitment or reveal whose whole spelling the digits are
abbrev pub frame_of : List ℕ → Option TurnFrame
frame_of text = if list_all is_lower_digit text then option_and_then turn_frame_of (result_ok (decode_of text)) else None

-- the bytes that the digits spell, one at least
abbrev pub bytes_of : List ℕ → Option (List ℕ)
bytes_of text = if not (length text == 0) && list_all is_lower_digit text then result_ok (decode_of text) else None
