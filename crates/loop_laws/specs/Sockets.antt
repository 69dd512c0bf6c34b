-- Sockets: what the items of a history say of one socket.
use Rattle.std.specs.Prelude.{◌≡◌, ℕ, ◌==◌, List, [], ◌∷◌, ◌++◌, if◌then◌else◌}
use Rattle.std.specs.List.{flat_map}
use Rattle.wire_frames.specs.declared.frames.Frame.{Frame}
use Rattle.wire_frames.specs.Streams.{stream_of}
use Rattle.socket_station.specs.Items.{Item, Dialled}
use Rattle.socket_station.specs.Moved.{taken_in}
use Rattle.socket_station.specs.Standings.{OpensNew}

-- the frames that came whole on the socket, in their order
abbrev pub came_on : (socket : ℕ) → List Item → List Frame
came_on n items = (stream_of (taken_in n items)).frames

-- the player for whom an item dialled the socket
abbrev pub dialled_at : (socket : ℕ) → Item → List ℕ
dialled_at n (Dialled s q addr) = if s == n then q ∷ [] else []
dialled_at n _ = []

-- the players for whom the socket was dialled: none, or one
abbrev pub dialled_for : (socket : ℕ) → List Item → List ℕ
dialled_for n items = flat_map (dialled_at n) items

-- the numbers of the sockets that each item opens are new after the items before it, as a
-- station promises
abbrev pub SocketsAreNew : List Item → Type 0
SocketsAreNew items = (before more : List Item) (item : Item) → items ≡ before ++ item ∷ more →
    OpensNew before item
