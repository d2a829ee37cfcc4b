-- `play_entry` lengthens the history by the entry, by its kind. Assumes nothing.
use native.Mathlib.Omega.{arith}
use mathlib.Core.Path.{refl, sym}
use Rattle.play.proofs.PlayLaws.{can_sound, can_nodes, entry_there, kind_known, few_posts, few_frames, post_within, played_post_at, played_frame}
use Rattle.play.proofs.play_entry.Goals as goal

pub kind_at-requires : goal.kind_at-requires
kind_at-requires c = entry_there c.requires.can_play c.requires.entry

pub unwrap-requires : goal.unwrap-requires
unwrap-requires c = kind_known c.requires.can_play c.requires.entry _ c.kind_at.ensures

pub place_at-requires : goal.place_at-requires
place_at-requires c = entry_there c.requires.can_play c.requires.entry

pub play_post-requires : goal.play_post-requires
play_post-requires c =
    let kind = rw c.in-Post.ensures at c.kind_at.ensures in
    (omega (arith, can_nodes c.requires.can_play, (can_sound c.requires.can_play).ranges.sizes.nodes), omega (arith, c.place_at.ensures, post_within c.requires.can_play c.requires.entry (sym kind)))

pub posts_after-requires : goal.posts_after-requires
posts_after-requires c = few_posts c.requires.can_play c.requires.entry

pub returns-in-Post : goal.returns-in-Post
returns-in-Post c =
    let kind = rw c.in-Post.ensures at c.kind_at.ensures in
    played_post_at c.requires.can_play c.requires.entry (sym kind) c.place_at.ensures c.play_post.ensures (rw c.posts_after.ensures refl)

pub frames_after-requires : goal.frames_after-requires
frames_after-requires c = few_frames c.requires.can_play c.requires.entry

pub returns-in-Frame : goal.returns-in-Frame
returns-in-Frame c =
    let kind = rw c.in-Frame.ensures at c.kind_at.ensures in
    played_frame c.requires.can_play c.requires.entry c.play_frame.ensures (λ z. omega (arith, kind)) (rw c.frames_after.ensures refl)
