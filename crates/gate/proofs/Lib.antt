mod Handed
mod Texts
