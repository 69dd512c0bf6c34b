-- Ledgers: the room of a post in memory, and which of its calls are to fail.
use Rattle.std.specs.Prelude.{ℕ, ◌+◌, ◌-◌, ◌^◌, Bool, true, false, not, ◌&&◌, ◌==◌, nat_lt, nat_le, List, [], min, if◌then◌else◌}
use Rattle.std.specs.List.{list_any}

-- the room that is left, and the calls that are to fail
pub record HeldLedger : Type 0 where
  -- how many calls were answered
  pub calls : ℕ
  -- for how many items and bytes more there is room
  pub items : ℕ
  pub bytes : ℕ
  -- a call found too little room
  pub is_spent : Bool
  -- the numbers of the calls that are to fail, counted from 1
  pub named : List ℕ

-- so much room, no call that is to fail, and none that was answered
abbrev pub new_ledger : (items bytes : ℕ) → HeldLedger
new_ledger items bytes = record { calls = 0; items = items; bytes = bytes; is_spent = false; named = [] }

-- a count in 64 bits stays at its last value
abbrev pub long : ℕ → ℕ
long n = min n (2 ^ 64 - 1)

-- whether the next call is to fail
abbrev pub fails_next : HeldLedger → Bool
fails_next l = nat_lt (long (l.calls + 1)) (2 ^ 32) && list_any (λ n. n == long (l.calls + 1)) l.named

-- whether an item of so many bytes has room: none has once a call found too little
abbrev pub fits : ℕ → HeldLedger → Bool
fits size l = not l.is_spent && nat_lt 0 l.items && nat_le size l.bytes

-- a call that is not to fail, and for whose item there is room, goes on
abbrev pub goes : ℕ → HeldLedger → Bool
goes size l = fits size l && not (fails_next l)

-- after a call that tells so many bytes: it takes its room whether it fails or not
abbrev pub charged : ℕ → HeldLedger → HeldLedger
charged size l = record {
  calls = long (l.calls + 1);
  items = if fits size l then l.items - 1 else l.items;
  bytes = if fits size l then l.bytes - size else l.bytes;
  is_spent = if fits size l then l.is_spent else true;
  named = l.named;
}
