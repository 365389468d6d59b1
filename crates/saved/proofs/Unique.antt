-- Each public function's promise, as it stands in the source, determines one answer and one content of each slice that was lent
-- to be written, for every input, also where it refuses. A promise is what is read off the function's own `ensures`: `Post`.
-- Assumes nothing.
use mathlib.Core.Path.{◌≡◌}
use Rattle.arith.proofs.Unique.{same, OneAnswer, OneOutcome}
use Rattle.saved.proofs.Told.{code_once, told_once}
use Rattle.saved.proofs.codes.ime_code.Reads as ime-code
use Rattle.saved.proofs.codes.mode_code.Reads as mode-code
use Rattle.saved.proofs.block.bytes_of.Reads as bytes-of
use Rattle.saved.proofs.block.has_codes.Reads as has-codes
use Rattle.saved.proofs.block.state_of.Reads as state-of
use Rattle.saved.proofs.block.read.Reads as read
use Rattle.saved.proofs.load_head.Reads as load-head
use Rattle.saved.proofs.check_image.Reads as check-image
use Rattle.saved.proofs.memory_of.Reads as memory-of
use Rattle.saved.proofs.save_head.Reads as save-head
use Rattle.saved.proofs.save_image.Reads as save-image

pub ime_code_unique : OneAnswer ime-code.Post
ime_code_unique _ _ _ _ _ _ = same

pub mode_code_unique : OneAnswer mode-code.Post
mode_code_unique _ _ _ _ _ _ = same

pub bytes_of_unique : OneAnswer bytes-of.Post
bytes_of_unique _ _ _ _ _ _ = same

pub has_codes_unique : OneAnswer has-codes.Post
has_codes_unique _ _ _ _ _ _ = same

pub state_of_unique : OneAnswer state-of.Post
state_of_unique _ _ _ _ _ _ = same

pub read_unique : OneAnswer read.Post
read_unique _ _ r s _ _ p q = told_once r s (same p q)

pub load_head_unique : OneAnswer load-head.Post
load_head_unique _ _ r s _ _ p q = told_once r s (same p q)

pub check_image_unique : OneAnswer check-image.Post
check_image_unique _ _ r s _ _ p q = told_once r s (same p q)

-- the part: the bytes that it holds, and where it lies
pub memory_of_unique : (κs : _) (a : _) (r r' : _) (e e' : _) → memory-of.Post κs a r e → memory-of.Post κs a r' e' → (r.now ≡ r'.now) × (r.ref_ptr ≡ r'.ref_ptr)
memory_of_unique κs a r r' e e' p q = (same p.holds q.holds, same p.lies q.lies)

pub save_head_unique : OneOutcome save-head.Post (λ κs e. e.1.0.now)
save_head_unique _ _ r s _ _ p q = (code_once r s (same p.answers q.answers), same p.leaves q.leaves)

pub save_image_unique : OneOutcome save-image.Post (λ κs e. e.1.1.0.now)
save_image_unique _ _ r s _ _ p q = (code_once r s (same p.answers q.answers), same p.leaves q.leaves)
