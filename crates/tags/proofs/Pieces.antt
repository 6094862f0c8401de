-- What GCM hashes, as one message.
use Rattle.std.proofs.Common.{arith}
use Rattle.tags.specs.Blocks.{lengths_block}
use Rattle.tags.specs.Pieces.{GcmIsMessage}
use Rattle.tags.proofs.Padding.{gcm_message}

pub gcm_is_message : GcmIsMessage
gcm_is_message associated text = gcm_message associated text (lengths_block associated text) (omega arith)
