-- A block's clips are at most twelve for each symbol that it wrote, refused or not (crates/fixed).
use Rattle.fixed.proofs.Clips.{block-clips}
use Rattle.timing.specs.Timing.{ClipsFew}

pub clips_few : ClipsFew
clips_few s f values out = block-clips s f values out
