-- Bytes of a file that were read ahead.
use Rattle.std.specs.Prelude.{◌≡◌, ◌≤◌, ℕ, ◌+◌, ◌-◌, List, length, take, drop}
use Rattle.log_recover.specs.declared.window.Window.{Window}

-- the bytes that were read
abbrev pub bytes_in : Window → List ℕ
bytes_in w = take w.count w.buffer.items

-- up to so many of them from a place of the file on
abbrev pub seen : Window → ℕ → ℕ → List ℕ
seen w at len = take len (drop (at - w.place) (bytes_in w))

-- The bytes that were read are those of the file from the window's place on.
pub record Shows (w : Window) (file : List ℕ) : Type 0 where
  pub few : w.count ≤ length w.buffer.items
  pub part : bytes_in w ≡ take w.count (drop w.place file)

-- So many bytes from this place on were read.
abbrev pub Covers : Window → ℕ → ℕ → Type 0
Covers w at len = (w.place ≤ at) × (at + len ≤ w.place + w.count)
