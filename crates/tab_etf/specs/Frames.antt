-- Payloads behind their lengths, on a stream (ERTS: {packet, 4}, four bytes of length, the highest first).
use Rattle.std.specs.Prelude.{◌≡◌, ◌≢◌, ℕ, ◌<◌, List, [], ◌∷◌, ◌++◌, length, take, map, Option, Some, None, nat_lt, if◌then◌else◌}
use Rattle.std.specs.List.{flat_map}
use Rattle.std.specs.Int.{w32, to_be_bytes, from_be_bytes}
use Rattle.tab_etf.specs.declared.framing.Frame.{Frame}
use Rattle.tab_etf.specs.declared.framing.Frame.TheVariants.{Empty, Payload}

-- the longest payload that is read (a rule of this project)
abbrev pub limit : ℕ
limit = 1048576

-- four bytes of length, and the payload
abbrev pub frame : List ℕ → List ℕ
frame payload = to_be_bytes w32 (length payload) ++ payload

-- the stream of these payloads
abbrev pub frames : List (List ℕ) → List ℕ
frames payloads = flat_map frame payloads

-- the length that stands at the front, if its four bytes have come
unfoldable pub length_next : List ℕ → Option ℕ
length_next bytes = if nat_lt (length bytes) 4 then None else Some (from_be_bytes w32 (take 4 bytes))

-- a length over the limit stands next
abbrev pub IsOver : Option ℕ → ℕ → Type 0
IsOver None n = ⊥
IsOver (Some m) n = (m ≡ n) × (limit < m)

-- ---- what a frame of the program stands for

-- the bytes of a frame's payload, none for Empty
abbrev pub payload_of : Frame → List ℕ
payload_of Empty = []
payload_of (Payload bytes) = bytes.items

-- the payloads of the frames, in their order
abbrev pub contents : List Frame → List (List ℕ)
contents fs = map payload_of fs

-- an empty payload is told as Empty
abbrev pub IsTold : Frame → Type 0
IsTold Empty = Unit {0}
IsTold (Payload bytes) = bytes.items ≢ []

-- each empty payload among them is an Empty
abbrev pub AreTold : List Frame → Type 0
AreTold [] = Unit {0}
AreTold (f ∷ fs) = IsTold f × AreTold fs
