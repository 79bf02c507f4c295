mod Batches
mod Cuts
mod PatchLines
