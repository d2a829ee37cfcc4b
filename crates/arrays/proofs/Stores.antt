-- Stores: what a store does to the places passed by a loop, and that lengths stay. The laws assume nothing.
use Prim.Native.Nat.{ℕ, ◌+◌, ◌-◌, ◌*◌, ◌≤◌, ◌<◌}
use native.Mathlib.Omega.{arith}
use native.Mathlib.Nat.{mul-le-mul_right}
use mathlib.Core.Path.{◌≡◌, ◌∙◌, sym, ap}
use mathlib.Core.List.{List}
use lib.Arith.{digits_lt}
use lib.ListN.{length, set, drop}
use lib.Seq.{drop-set-lt, drop-drop}
use Rattle.star.specs.Rooms.{Square}
use Rattle.arrays.specs.Arrays.{Frame, Slot}

pub square_kept : {n : ℕ} (x y : List ℕ) → length y ≡ length x → Square n x → Square n y
square_kept x y e h = record { nodes = h.nodes; cells = omega (arith, h.cells) }

pub frame_kept : {n l : ℕ} (x y : List ℕ) → length y ≡ length x → Frame n l x → Frame n l y
frame_kept x y e h = record { nodes = h.nodes; slots = h.slots; cells = omega (arith, h.cells) }

-- a frame has its slots, and is a frame of fewer slots too
pub frame_slot : {n l : ℕ} {x : List ℕ} {k : ℕ} → Frame n l x → k < l → Slot n x k
frame_slot {n = n} h lt = record { cells = omega (arith, mul-le-mul_right n lt, h.cells) }

pub frame_less : {n l m : ℕ} {x : List ℕ} → Frame n l x → m ≤ l → Frame n m x
frame_less {n = n} h le = record { nodes = h.nodes; slots = omega (arith, h.slots); cells = omega (arith, mul-le-mul_right n le, h.cells) }

-- a store in a slot leaves what comes after it
pub beyond_kept : (n l k j b : ℕ) (x : List ℕ) → k < l → j < n → drop (l * n) (set x (k * n + j) b) ≡ drop (l * n) x
beyond_kept n l k j b x hk hj = drop-set-lt (l * n) x (k * n + j) b (digits_lt hk hj)

-- lists that agree from slot m on agree from a later one on
pub beyond_more : (n m l : ℕ) (x y : List ℕ) → m ≤ l → drop (m * n) x ≡ drop (m * n) y → drop (l * n) x ≡ drop (l * n) y
beyond_more n m l x y le e =
    let far : m * n + (l * n - m * n) ≡ l * n = omega (arith, mul-le-mul_right n le) in
    rw (sym far) (sym (drop-drop (l * n - m * n) (m * n) x) ∙ ap (drop (l * n - m * n)) e ∙ drop-drop (l * n - m * n) (m * n) y)
