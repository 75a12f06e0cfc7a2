mod Sharing
